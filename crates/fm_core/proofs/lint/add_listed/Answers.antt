use Rattle.std.proofs.Common.{◌≡◌, ◌∙◌, ◌++◌, map, OnOk, subst}
use Rattle.fm_core.specs.Seen.{seen_listed}
use Rattle.fm_core.specs.Lint.{seen_warning}
use Rattle.fm_core.proofs.LintLemmas.{warnings-listed}
use Rattle.fm_core.proofs.lint.add_listed.Goals as goal

pub returns : goal.returns
returns g c =
    let same = warnings-listed (seen_listed c.args.listed.now) _ _ _ _ (c.deref.ensures ∙ rw c.in_ok-print_name.was at c.print_name.ensures) c.metric_type-metric_type.ensures c.unit_of-unit.ensures c.help.ensures in
    subst (λ ws. OnOk c.add_warnings.result (map seen_warning c.add_warnings.new.warnings.items ≡ map seen_warning c.args.warnings.now.items ++ ws)) same c.add_warnings.ensures
