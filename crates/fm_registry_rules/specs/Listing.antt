-- The order of the metrics in an exposition.
use Rattle.std.specs.Prelude.{ℕ, zero, suc, List, [], ◌∷◌, ◌++◌, map, flat_map, Option, length}
use Rattle.fm_grammar.specs.Names.{IsSnakeCase}
use Rattle.fm_grammar.specs.WellFormed.{UnitFits, UnitAllowed, AreLabels}
use Rattle.fm_registry_rules.specs.Texts.{Text, Path, Labels, printed_name}
use Rattle.fm_registry_rules.specs.Registration.{Registration, printed_unit}
use Rattle.fm_registry_rules.specs.History.{History, metrics_at, children_at, labels_at, namespace_at}
use Rattle.fm_registry_rules.specs.Tree.{Facts, Forest, Leaf, Child, Tree}

-- a registration with the namespace and labels of its registry
pub record Listed (M : Type 0) : Type 0 where
  pub namespace : Option Text
  pub labels : Labels
  pub registration : Registration M

module _ {M : Type 0} where
  -- each registration with a namespace and labels
  abbrev pub listed_with : Option Text → Labels → List (Registration M) → List (Listed M)
  listed_with namespace labels registrations = map (λ r. record { namespace = namespace; labels = labels; registration = r }) registrations

  -- a registry's metrics, without those of its subsystems
  abbrev pub own_metrics : Facts M → List (Listed M)
  own_metrics facts = listed_with facts.namespace facts.labels facts.metrics

  -- the metrics of sibling registries, each followed by those below it
  abbrev pub listed_forest : Forest M → List (Listed M)
  listed_forest Leaf = []
  listed_forest (Child name facts below rest) = own_metrics facts ++ (listed_forest below ++ listed_forest rest)

  -- a registry's metrics, and then those of its subsystems
  abbrev pub listed_tree : Tree M → List (Listed M)
  listed_tree t = own_metrics t.facts ++ listed_forest t.children

  -- the metrics registered at a path, each with the namespace and the labels there
  abbrev pub listed_at : History M → Path → List (Listed M)
  listed_at b path = listed_with (namespace_at b path) (labels_at b path) (metrics_at b.calls path)

  -- The metrics at a path and below it, down to a depth: those of the registry there in order of registration,
  -- then those of each subsystem in order of creation.
  abbrev pub order_from : History M → ℕ → Path → List (Listed M)
  order_from b zero path = listed_at b path
  order_from b (suc depth) path = listed_at b path ++ flat_map (λ name. order_from b depth (path ++ name ∷ [])) (children_at b.calls path)

  -- all of them, since no subsystem is deeper than the number of calls
  abbrev pub order : History M → List (Listed M)
  order b = order_from b (length b.calls) []

  -- the metric's name in the exposition
  abbrev pub listed_name : Listed M → Text
  listed_name l = printed_name l.namespace l.registration.name (printed_unit l.registration.unit)

  -- a listed metric whose family is well formed, but for its samples
  pub record IsListable (l : Listed M) : Type 0 where
    pub name : IsSnakeCase (listed_name l)
    pub unit : UnitFits (listed_name l) (printed_unit l.registration.unit)
    pub allowed : UnitAllowed l.registration.metric_type (printed_unit l.registration.unit)
    pub labels : AreLabels l.labels
