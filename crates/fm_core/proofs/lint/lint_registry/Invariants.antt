use Rattle.std.proofs.Common.{◌≡◌, map, take}
use Rattle.fm_core.specs.Seen.{listed_in}
use Rattle.fm_core.specs.Lint.{warnings_of_all, seen_warning}
use Rattle.fm_core.proofs.lint.lint_registry.Given as goal

abbrev pub invariant-loop-registry : goal.invariant-loop-registry
invariant-loop-registry g l = map seen_warning l.warnings.items ≡ warnings_of_all (listed_in (take l.registry-index l.registry-items))
