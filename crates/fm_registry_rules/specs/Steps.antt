-- How a tree changes.
use Rattle.std.specs.Prelude.{◌+◌, [], Option, None, Some, if◌then◌else◌}
use Rattle.std.specs.Str.{bytes_eq}
use Rattle.fm_registry_rules.specs.Texts.{Text, Labels, merge_labels, join_name}
use Rattle.fm_registry_rules.specs.Tree.{Facts, Forest, Leaf, Child, Tree, find_child}

module _ {M : Type 0} where
  -- the facts of a new subsystem
  abbrev pub new_facts : Facts M → Text → Labels → Facts M
  new_facts facts name labels = record { namespace = join_name facts.namespace name; labels = merge_labels facts.labels labels; depth = facts.depth + 1; metrics = [] }

  -- the forest with one more registry at its end
  abbrev pub add_child : Forest M → Text → Facts M → Forest M
  add_child Leaf new facts = Child new facts Leaf Leaf
  add_child (Child name own below rest) new facts = Child name own below (add_child rest new facts)

  -- the tree with a new subsystem, unless one was found
  abbrev pub added_unless : Option (Tree M) → Tree M → Text → Labels → Tree M
  added_unless (Some found) t name labels = t
  added_unless None t name labels = record t { children = add_child t.children name (new_facts t.facts name labels) }

  -- a subsystem that exists stays as it is, and a new one is added as the last
  abbrev pub with_subsystem : Tree M → Text → Labels → Tree M
  with_subsystem t name labels = added_unless (find_child t.children name) t name labels

  -- the forest with the tree w, under a new name, instead of the registry with the wanted name
  abbrev pub with_named : Forest M → Text → Text → Tree M → Forest M
  with_named Leaf wanted new w = Leaf
  with_named (Child name facts below rest) wanted new w =
      if bytes_eq name wanted then Child new w.facts w.children rest else Child name facts below (with_named rest wanted new w)

  -- the tree with w instead of the subsystem with this name
  abbrev pub with_child : Tree M → Text → Tree M → Tree M
  with_child t name w = record t { children = with_named t.children name name w }
