use Rattle.std.proofs.Common.{◌≡◌, take}
use Rattle.fm_core.specs.Calls.{seen_path}
use Rattle.fastmetrics.specs.Paths.{shown_path}
use Rattle.fastmetrics.proofs.registry.paths.owned_path.Given as goal

abbrev pub invariant-loop-name : goal.invariant-loop-name
invariant-loop-name l = seen_path l.names.items ≡ shown_path (take l.name-index l.path)
