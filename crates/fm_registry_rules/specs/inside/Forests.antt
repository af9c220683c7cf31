-- Registries by their index, and how large a tree is.
use Rattle.std.specs.Prelude.{ℕ, zero, suc, ◌+◌, [], ◌∷◌, ◌++◌, Option, None, Some, if◌then◌else◌}
use Rattle.std.specs.Str.{bytes_eq}
use Rattle.fm_registry_rules.specs.Texts.{Text, Labels, Path}
use Rattle.fm_registry_rules.specs.Registration.{Registration}
use Rattle.fm_registry_rules.specs.Tree.{Facts, Forest, Leaf, Child, Tree, subtree_from}
use Rattle.fm_registry_rules.specs.Steps.{new_facts}

module _ {M : Type 0} where
  -- the tree with one more metric
  abbrev pub with_metric : Tree M → Registration M → Tree M
  with_metric t registration = record t { facts = record t.facts { metrics = t.facts.metrics ++ registration ∷ [] } }

  -- a new subsystem
  abbrev pub new_tree : Facts M → Text → Labels → Tree M
  new_tree facts name labels = record { facts = new_facts facts name labels; children = Leaf }

  -- the registry at an index
  abbrev pub nth_in : Forest M → ℕ → Option (Tree M)
  nth_in Leaf index = None
  nth_in (Child name facts below rest) zero = Some (record { facts = facts; children = below })
  nth_in (Child name facts below rest) (suc index) = nth_in rest index

  -- the name at an index
  abbrev pub nth_name : Forest M → ℕ → Option Text
  nth_name Leaf index = None
  nth_name (Child name facts below rest) zero = Some name
  nth_name (Child name facts below rest) (suc index) = nth_name rest index

  -- the forest with the tree w, under a new name, at an index
  abbrev pub with_nth : Forest M → ℕ → Text → Tree M → Forest M
  with_nth Leaf index new w = Leaf
  with_nth (Child name facts below rest) zero new w = Child new w.facts w.children rest
  with_nth (Child name facts below rest) (suc index) new w = Child name facts below (with_nth rest index new w)

  -- the index of the registry with the wanted name, if the first registry has this index
  abbrev pub index_from : ℕ → Forest M → Text → Option ℕ
  index_from index Leaf wanted = None
  index_from index (Child name facts below rest) wanted = if bytes_eq name wanted then Some index else index_from (index + 1) rest wanted

  -- the index of the registry with the wanted name
  abbrev pub index_in : Forest M → Text → Option ℕ
  index_in forest wanted = index_from 0 forest wanted

  -- the number of registries
  abbrev pub forest_size : Forest M → ℕ
  forest_size Leaf = 0
  forest_size (Child name facts below rest) = forest_size below + 1 + forest_size rest

  -- the number of registries, with the root
  abbrev pub tree_size : Tree M → ℕ
  tree_size t = forest_size t.children + 1

  -- the registry at a path
  abbrev pub subtree_at : Tree M → Path → Option (Tree M)
  subtree_at t path = subtree_from (Some t) path
