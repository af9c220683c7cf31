use Rattle.std.proofs.Common.{◌≡◌, map, take}
use Rattle.std.specs.List.{flat_map}
use Rattle.fm_core.specs.Lint.{warnings_of_family, seen_warning}
use Rattle.fm_core.proofs.lint.lint_exposition.Given as goal

abbrev pub invariant-loop-family : goal.invariant-loop-family
invariant-loop-family l = map seen_warning l.warnings.items ≡ flat_map warnings_of_family (take l.family-index l.family-items)
