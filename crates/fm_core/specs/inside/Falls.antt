-- Each subsystem contains fewer registries than its parent.
use Rattle.std.specs.Prelude.{ℕ, ◌+◌, ◌≤◌, List, [], ◌∷◌, Option, None, Some, Vec}
use Rattle.std.specs.declared.alloc.Global.{Global}
use Rattle.std.proofs.Common.{arith}
use Rattle.fm_registry_rules.specs.Lists.{items_of}
use Rattle.fm_registry_rules.specs.inside.Forests.{forest_size, tree_size}
use Rattle.fm_core.specs.inside.TreeView.{tree_of, forest_of}
use Rattle.fm_core.specs.declared.registry.tree.Registry.TheInside.{Inside}
use Rattle.fm_core.specs.declared.registry.tree.Registry.TheDeep.{deep-Registry, deep-Subsystem}
use Rattle.fm_core.specs.declared.registry.tree.Subsystem.{Subsystem}
use denote.Param.Weighed.{most}

module _ {M : Type 0} where
  pub most_le-forest_size : (f : Subsystem M → ℕ) → ((s : Subsystem M) → f s ≤ tree_size s.registry + 1) → (ss : List (Subsystem M)) → most f ss ≤ forest_size (forest_of ss) + 1
  most_le-forest_size f small [] = omega arith
  most_le-forest_size f small (s ∷ ss) = omega (arith, small s, most_le-forest_size f small ss)

  pub deep_le-tree_size : (a : Inside M) → Unit {0} → deep-Registry M a ≤ tree_size (tree_of a)
  deep_le-tree_size a _ = omega (arith, by a.subsystems)
    where
      by : (v : Option (Vec (Subsystem M) Global))
          → deep-Registry M (record a { subsystems = v }) ≤ forest_size (forest_of (items_of v)) + 1
      by None = omega arith
      by (Some v) = omega (arith, most_le-forest_size (deep-Subsystem M) (λ s. omega arith) v.items)
