use Rattle.std.proofs.Common.{◌≡◌, drop}
use Rattle.fm_core.specs.Calls.{seen_path}
use Rattle.fm_core.specs.inside.Missing.{missing_in}
use Rattle.fm_core.proofs.registry.tree.Registry.missing_index.Given as goal

-- from here the names that are left lack the same one
abbrev pub invariant-loop-index : goal.invariant-loop-index
invariant-loop-index g l = missing_in l.here (seen_path (drop l.index l.path)) ≡ missing_in l.fn.self (seen_path l.path)
