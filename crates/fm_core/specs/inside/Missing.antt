-- The first name on a path that is not that of a subsystem.
use Rattle.std.specs.Prelude.{List, [], ◌∷◌, Option, None, Some}
use Rattle.fm_registry_rules.specs.Texts.{Text, Path}
use Rattle.fm_registry_rules.specs.Tree.{Tree, find_child}

module _ {M : Type 0} where
  -- the name, if no registry has it, or else what is missing below that registry
  abbrev pub missing_below : Text → Option (Tree M) → (Tree M → Option Text) → Option Text
  missing_below name None later = Some name
  missing_below name (Some t) later = later t

  -- the first name on the path from this registry
  abbrev pub missing_in : Tree M → Path → Option Text
  missing_in t [] = None
  missing_in t (name ∷ path) = missing_below name (find_child t.children name) (λ c. missing_in c path)
