use Rattle.std.proofs.Common.{Some, IsSome, refl, sym, ap, subst, ◌∙◌}
use Rattle.std.proofs.lemmas.Result.{err_from_is_err_and}
use Rattle.std.specs.String.{string_bytes}
use Rattle.fm_grammar.specs.LabelPairs.{labels_of}
use Rattle.fm_registry_rules.specs.History.{Register, Subsystem}
use Rattle.fm_registry_rules.specs.Tree.{subtree_from}
use Rattle.fm_core.specs.Calls.{seen_path}
use Rattle.fm_core.specs.View.{asked_metric}
use Rattle.fm_core.proofs.PathLemmas.{there_if_tested, missing_refused, called}
use Rattle.fm_core.proofs.registry.tree.Registry.apply_call.Goals as goal

pub returns-in_err-path-in-Register : goal.returns-in_err-path-in-Register
returns-in_err-path-in-Register g c =
    let given = c.in-Register in
    let exit = err_from_is_err_and c.from_residual.result c.from_residual.ensures.1 in
    let missing = missing_refused (λ path. Register path (asked_metric given.name given.help given.unit given.metric c.metric_type-metric_type.result)) (λ name path. refl) c.args.self.now (seen_path given.path.items) _ c.in_err-path-in-Register.ensures.answer in
    rw (exit.1, exit.2, given.is) (called _ _ _ _ _ _ _ (c.metric_type-metric_type.result, c.metric_type-metric_type.ensures, refl) refl missing tt refl)

pub register_at-requires : goal.register_at-requires
register_at-requires g c =
    let same = c.as_slice.ensures.value ∙ ap (λ path. path.items) c.in_ok-path-in-Register.ensures.ok in
    subst (λ names. IsSome (subtree_from (Some c.args.self.now) (seen_path names))) (sym same) (there_if_tested c.args.self.now (seen_path c.in-Register.path.items) c.in_ok-path-in-Register.ensures.answer)

pub returns-in_err-path-in-Subsystem : goal.returns-in_err-path-in-Subsystem
returns-in_err-path-in-Subsystem g c =
    let given = c.in-Subsystem in
    let exit = err_from_is_err_and c.from_residual-in_err-path-in-Subsystem.result c.from_residual-in_err-path-in-Subsystem.ensures.1 in
    let missing = missing_refused (λ path. Subsystem path (string_bytes given.name) (labels_of given.labels.items)) (λ name path. refl) c.args.self.now (seen_path given.path.items) _ c.in_err-path-in-Subsystem.ensures.answer in
    rw (exit.1, exit.2, given.is) (called _ _ _ _ _ _ _ refl refl missing tt refl)

pub ask_at-requires : goal.ask_at-requires
ask_at-requires g c =
    let same = c.as_slice-in-Subsystem.ensures.value ∙ ap (λ path. path.items) c.in_ok-path-in-Subsystem.ensures.ok in
    subst (λ names. IsSome (subtree_from (Some c.args.self.now) (seen_path names))) (sym same) (there_if_tested c.args.self.now (seen_path c.in-Subsystem.path.items) c.in_ok-path-in-Subsystem.ensures.answer)

pub returns-in_ok-path-in-Register : goal.returns-in_ok-path-in-Register
returns-in_ok-path-in-Register g c =
    let given = c.in-Register in
    let same = c.as_slice.ensures.value ∙ ap (λ path. path.items) c.in_ok-path-in-Register.ensures.ok in
    rw given.is
    (called _ _ _ _ _ _ _ (c.metric_type-metric_type.result, c.metric_type-metric_type.ensures, refl)
    (ap (λ names. Register (seen_path names) (asked_metric given.name given.help given.unit given.metric c.metric_type-metric_type.result)) same)
    c.register_at.ensures.reply c.register_at.ensures.ok c.register_at.ensures.err)

pub returns-in_ok-path-in-Subsystem : goal.returns-in_ok-path-in-Subsystem
returns-in_ok-path-in-Subsystem g c =
    let given = c.in-Subsystem in
    let same = c.as_slice-in-Subsystem.ensures.value ∙ ap (λ path. path.items) c.in_ok-path-in-Subsystem.ensures.ok in
    rw given.is
    (called _ _ _ _ _ _ _ refl (ap (λ names. Subsystem (seen_path names) (string_bytes given.name) (labels_of given.labels.items)) same) c.ask_at.ensures.reply c.ask_at.ensures.ok c.ask_at.ensures.err)
