-- How contracts see a registry, as a tree, and what it means that the tree reads a history.
use Rattle.std.specs.Prelude.{◌≡◌, ℕ, ◌+◌, List, [], ◌∷◌, length, Option, None, Some, IfSome, if◌then◌else◌}
use Rattle.std.specs.Str.{bytes_eq}
use Rattle.fm_registry_rules.specs.Texts.{Text, Path, Labels}
use Rattle.fm_registry_rules.specs.Registration.{Registration}
use Rattle.fm_registry_rules.specs.History.{History, metrics_at, children_at, labels_at, namespace_at}
use Rattle.fm_registry_rules.specs.Accepted.{IsHistory}

-- one registry, without its subsystems
pub record Facts (M : Type 0) : Type 0 where
  pub namespace : Option Text
  pub labels : Labels
  pub depth : ℕ
  pub metrics : List (Registration M)

-- sibling registries, each with its name, its facts and its subsystems
pub data Forest (M : Type 0) : Type 0 where
  Leaf : Forest M
  Child : Text → Facts M → Forest M → Forest M → Forest M

-- a registry with its subsystems
pub record Tree (M : Type 0) : Type 0 where
  pub facts : Facts M
  pub children : Forest M

module _ {M : Type 0} where
  -- the names of sibling registries
  abbrev pub names_in : Forest M → List Text
  names_in Leaf = []
  names_in (Child name facts below rest) = name ∷ names_in rest

  -- the registry with this name
  abbrev pub find_child : Forest M → Text → Option (Tree M)
  find_child Leaf wanted = None
  find_child (Child name facts below rest) wanted = if bytes_eq name wanted then Some (record { facts = facts; children = below }) else find_child rest wanted

  -- the registry at a path from a registry that may be absent
  abbrev pub subtree_from : Option (Tree M) → Path → Option (Tree M)
  subtree_from None path = None
  subtree_from (Some t) [] = Some t
  subtree_from (Some t) (name ∷ path) = subtree_from (find_child t.children name) path

  -- the metrics of a registry, or none if there is no registry
  abbrev pub metrics_of : Option (Tree M) → List (Registration M)
  metrics_of None = []
  metrics_of (Some t) = t.facts.metrics

  -- the names of a registry's subsystems, or none if there is no registry
  abbrev pub children_of : Option (Tree M) → List Text
  children_of None = []
  children_of (Some t) = names_in t.children

  -- A tree, or its absence, shows a history: at every path it has the history's metrics and subsystems, and each registry that
  -- exists has the history's namespace, labels and depth.
  pub record ShowsFrom (o : Option (Tree M)) (b : History M) : Type 0 where
    pub metrics : (path : Path) → metrics_of (subtree_from o path) ≡ metrics_at b.calls path
    pub children : (path : Path) → children_of (subtree_from o path) ≡ children_at b.calls path
    pub namespace : (path : Path) → IfSome (subtree_from o path) (λ t. t.facts.namespace ≡ namespace_at b path)
    pub labels : (path : Path) → IfSome (subtree_from o path) (λ t. t.facts.labels ≡ labels_at b path)
    pub depth : (path : Path) → IfSome (subtree_from o path) (λ t. t.facts.depth ≡ b.depth + length path)

  -- a tree shows a history
  abbrev pub Shows : Tree M → History M → Type 0
  Shows t b = ShowsFrom (Some t) b

  -- it reads a history: it shows the history, which is one of calls that were accepted in turn
  pub record ReadsFrom (o : Option (Tree M)) (b : History M) : Type 0 where
    pub shows : ShowsFrom o b
    pub history : IfSome o (λ t. IsHistory b)

  -- a tree reads a history
  abbrev pub Reads : Tree M → History M → Type 0
  Reads t b = ReadsFrom (Some t) b
