use Rattle.std.proofs.Common.{◌≡◌, ◌++◌, drop, map}
use Rattle.std.specs.Option.{option_copied}
use Rattle.fm_core.specs.Lint.{all_advice, warnings_among, seen_warning}
use Rattle.fm_core.proofs.lint.add_warnings.Given as goal

abbrev pub invariant-loop-advice : goal.invariant-loop-advice
invariant-loop-advice l =
    map seen_warning l.warnings.items ++ warnings_among (drop l.advice-index l.advice-items) l.name l.metric_type (option_copied l.unit) l.help
    ≡ map seen_warning l.fn.warnings.items ++ warnings_among all_advice l.name l.metric_type (option_copied l.unit) l.help
