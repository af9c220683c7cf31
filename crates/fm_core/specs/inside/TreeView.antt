-- How the fields of a registry make a tree.
use Rattle.std.specs.Prelude.{List, [], ◌∷◌, map, Option, None, Some}
use Rattle.std.specs.Option.{option_map}
use Rattle.std.specs.String.{string_bytes}
use Rattle.indexmap.specs.IndexMap.{IndexMap}
use Rattle.fm_registry_rules.specs.Registration.{Registration}
use Rattle.fm_registry_rules.specs.Tree.{Facts, Forest, Leaf, Child, Tree}
use Rattle.fm_registry_rules.specs.Lists.{items_of, seen_labels}
use Rattle.fm_registry_rules.specs.declared.names.Tailed.{Tailed}
use Rattle.fm_core.specs.declared.registry.tree.Registry.TheInside.{Inside}
use Rattle.fm_core.specs.declared.registry.tree.Subsystem.{Subsystem}
use Rattle.fm_core.specs.View.{seen_metric}

module _ {M : Type 0} where
  -- metrics with their metadata
  abbrev pub seen_metrics : List (Tailed × M) → List (Registration M)
  seen_metrics entries = map (λ e. seen_metric e.0.metadata e.1) entries

  -- the metrics of a map, or none
  abbrev pub metrics_in : {S : Type 0} → Option (IndexMap Tailed M S) → List (Registration M)
  metrics_in None = []
  metrics_in (Some metrics) = seen_metrics metrics.entries

  -- each registry under its name
  abbrev pub forest_of : List (Subsystem M) → Forest M
  forest_of [] = Leaf
  forest_of (subsystem ∷ subsystems) = Child (string_bytes subsystem.name) subsystem.registry.facts subsystem.registry.children (forest_of subsystems)

  -- a registry without what is below it
  abbrev pub facts_of : Inside M → Facts M
  facts_of a = record { namespace = option_map string_bytes a.facts.namespace; labels = seen_labels a.facts.const_labels; depth = a.facts.depth; metrics = metrics_in a.facts.metrics }

  -- a registry as a tree
  abbrev pub tree_of : Inside M → Tree M
  tree_of a = record { facts = facts_of a; children = forest_of (items_of a.subsystems) }
