use Rattle.std.proofs.Common.{◌≡◌, Some, map, drop}
use Rattle.std.specs.String.{string_bytes}
use Rattle.fm_registry_rules.specs.Tree.{subtree_from}
use Rattle.fm_core.proofs.registry.tree.Registry.at.Given as goal

-- the names that are left lead to the same registry
abbrev pub invariant-loop-name : goal.invariant-loop-name
invariant-loop-name g l =
    subtree_from (Some l.here) (map string_bytes (drop l.name-index l.path))
    ≡ subtree_from (Some l.fn.self) (map string_bytes l.path)
