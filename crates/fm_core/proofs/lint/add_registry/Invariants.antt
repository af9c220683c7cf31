use Rattle.std.proofs.Common.{◌≡◌, ◌++◌, map, take}
use Rattle.fm_registry_rules.specs.Listing.{own_metrics}
use Rattle.fm_core.specs.Lint.{warnings_of_all, seen_warning}
use Rattle.fm_core.proofs.lint.add_registry.Given as goal

abbrev pub invariant-loop-index : goal.invariant-loop-index
invariant-loop-index g l =
    map seen_warning l.warnings.items ≡ map seen_warning l.fn.warnings.items ++ warnings_of_all (take l.index (own_metrics l.fn.registry.facts))
