-- How contracts see a listed metric, and the list of a tree's registries.
use Rattle.std.specs.Prelude.{List}
use Rattle.std.specs.Borrow.{Bor}
use Rattle.std.specs.List.{flat_map}
use Rattle.std.specs.Option.{option_copied}
use Rattle.fm_grammar.specs.LabelPairs.{labels_of}
use Rattle.fm_registry_rules.specs.Tree.{Tree}
use Rattle.fm_registry_rules.specs.Listing.{Listed, own_metrics}
use Rattle.fm_core.specs.View.{seen_metric}
use Rattle.fm_core.specs.declared.registry.listed.ListedMetric.{ListedMetric}

module _ {M : Type 0} where
  -- a metric with its registry's namespace and labels
  abbrev pub seen_listed : ListedMetric M → Listed M
  seen_listed m = record { namespace = option_copied m.namespace; labels = labels_of m.const_labels.now; registration = seen_metric m.metadata.now m.metric.now }

  -- the metrics of these registries, without those of their subsystems
  abbrev pub listed_in : List (Bor (Tree M)) → List (Listed M)
  listed_in registries = flat_map (λ r. own_metrics r.now.facts) registries
