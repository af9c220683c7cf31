-- Why a root refuses a metric for its labels' names, which could not stand beside the constant labels of the registry in which it is to
-- be. Each name is tested when the metric is registered, so that no document is refused for it later.
use Rattle.std.specs.Prelude.{◌≡◌, List, [], ◌∷◌, Option, None, Some, map, option_and_then, if◌then◌else◌}
use Rattle.std.specs.List.{Any}
use Rattle.std.specs.Option.{option_map}
use Rattle.fm_grammar.specs.Kinds.{reserved_label}
use Rattle.fm_grammar.specs.LabelPairs.{labels_of}
use Rattle.fm_grammar.specs.declared.MetricType.{MetricType}
use Rattle.fm_grammar.specs.declared.MetricType.TheVariants as type
use Rattle.fm_raw.specs.declared.encode_error.EncodeError.{EncodeError}
use Rattle.fm_raw.specs.declared.metadata.Unit as unit
use Rattle.fm_raw.specs.Units.{seen_unit}
use Rattle.fm_registry_rules.specs.Texts.{Text, Labels, has_text, printed_name}
use Rattle.fm_registry_rules.specs.Registration.{printed_unit}
use Rattle.fm_registry_rules.specs.Answer.{Refusal, DuplicateLabel, or_then}
use Rattle.fm_registry_rules.specs.LabelNames.{names_refusal}
use Rattle.fm_registry_rules.specs.History.{History}
use Rattle.fm_registry_rules.specs.Tree.{Tree, Shows, subtree_from}
use Rattle.fm_registry_rules.specs.Listing.{Listed, listed_name, order}
use Rattle.fm_encoder.specs.Offers.{MetricHasFault}
use Rattle.fm_encoder.specs.declared.metric.EncodeMetric.{Ghosts}
use Rattle.fm_labels.specs.ReservedNames.{reserved_refusal}
use Rattle.fm_metrics.specs.Constants.{label_set_of}
use Rattle.fm_family.specs.VecNames.{vec_names}
use Rattle.fastmetrics.specs.Roots.{RootState, constants_refusal}
use Rattle.fastmetrics.specs.declared.registry.kinds.named_family.NamedFamily.{NamedFamily}
use Rattle.fastmetrics.specs.declared.registry.kinds.named_family.NamedFamily.TheVariants as family
use Rattle.fastmetrics.specs.declared.registry.kinds.constant.Constant.{Constant}
use Rattle.fastmetrics.specs.declared.registry.kinds.constant.Constant.TheVariants as constant
use Rattle.fastmetrics.specs.declared.registry.kinds.Metric.{Metric}
use Rattle.fastmetrics.specs.declared.registry.kinds.Metric.TheVariants as metric

-- a constant label has this name
abbrev pub taken_refusal : Labels → Text → Option Refusal
taken_refusal labels name = if has_text (map (λ label. label.name) labels) name then Some (DuplicateLabel name) else None

-- these names are not those of labels, or a constant label has one
abbrev pub facts_refusal : Labels → List Text → Option Refusal
facts_refusal labels names = or_then (names_refusal names) (constants_refusal labels names)

-- a constant label has the name that the type reserves
abbrev pub type_refusal : MetricType → Labels → Option Refusal
type_refusal type labels = option_and_then (taken_refusal labels) (reserved_label type)

-- a constant under these constant labels
abbrev pub constant_refusal : Labels → Constant → Option Refusal
constant_refusal labels (constant.Info x) = facts_refusal labels (map (λ label. label.name) (labels_of (label_set_of x).items))
constant_refusal labels (constant.Histogram s) = type_refusal type.Histogram labels
constant_refusal labels (constant.GaugeHistogram s) = type_refusal type.GaugeHistogram labels
constant_refusal labels _ = None

module _ {H : Type 0} where
  -- the type of the members of a family, and their label names
  abbrev pub family_type : NamedFamily H → MetricType
  family_type (family.Counters v) = type.Counter
  family_type (family.FixedCounters v) = type.Counter
  family_type (family.Gauges v) = type.Gauge
  family_type (family.FixedGauges v) = type.Gauge
  family_type (family.Histograms v) = type.Histogram
  family_type (family.GaugeHistograms v) = type.GaugeHistogram

  abbrev pub family_names : NamedFamily H → List Text
  family_names (family.Counters v) = vec_names v
  family_names (family.FixedCounters v) = vec_names v
  family_names (family.Gauges v) = vec_names v
  family_names (family.FixedGauges v) = vec_names v
  family_names (family.Histograms v) = vec_names v
  family_names (family.GaugeHistograms v) = vec_names v

-- a family of this type with these label names
abbrev pub family_refusal : Labels → MetricType → List Text → Option Refusal
family_refusal labels type names = or_then (type_refusal type labels) (or_then (reserved_refusal type names) (constants_refusal labels names))

module _ {H X : Type 0} where
  -- a metric that would be printed under this name, under these constant labels
  abbrev pub fit_refusal : Text → Labels → Metric H X → Option Refusal
  fit_refusal name labels (metric.Scalar x) = None
  fit_refusal name labels (metric.Histogram x) = type_refusal type.Histogram labels
  fit_refusal name labels (metric.GaugeHistogram x) = type_refusal type.GaugeHistogram labels
  fit_refusal name labels (metric.Family f) = family_refusal labels (family_type f) (family_names f)
  fit_refusal name labels (metric.States x) = taken_refusal labels name
  fit_refusal name labels (metric.Constant x) = constant_refusal labels x
  fit_refusal name labels (metric.Own x) = None

  -- a metric that would be registered there
  abbrev pub fit_refusal_in : Option (Tree (Metric H X)) → Text → Option unit.Unit → Metric H X → Option Refusal
  fit_refusal_in None name u m = None
  fit_refusal_in (Some t) name u m = fit_refusal (printed_name t.facts.namespace name (printed_unit (option_map seen_unit u))) t.facts.labels m

  -- a metric that would be registered in the current subsystem
  abbrev pub fit_refusal_here : RootState (Metric H X) → Text → Option unit.Unit → Metric H X → Option Refusal
  fit_refusal_here r name u m = fit_refusal_in (subtree_from (Some r.tree) r.path) name u m

module _ {H X : Type 0} (declared : Ghosts X) where
  -- the listed metric is the program's own, and has this fault
  abbrev pub OwnFault : EncodeError → Listed (Metric H X) → Type 0
  OwnFault k l =
      (x : X) × (l.registration.metric ≡ metric.Own x)
      × MetricHasFault k (declared.offers x) (declared.stamps x) (declared.may_fault x) (listed_name l) l.registration.metric_type l.labels

  -- a metric of the program's own has this fault, in each history that the tree shows
  pub record HasOwnFault (k : EncodeError) (t : Tree (Metric H X)) : Type 0 where
    pub history : History (Metric H X)
    pub shown : Shows t history
    pub fault : (b : History (Metric H X)) → Shows t b → Any (OwnFault k) (order b)

  -- a metric of the program's own that is printed under this name has this fault, in each history that the tree shows
  pub record HasOwnFaultNamed (name : Text) (k : EncodeError) (t : Tree (Metric H X)) : Type 0 where
    pub history : History (Metric H X)
    pub shown : Shows t history
    pub fault : (b : History (Metric H X)) → Shows t b → Any (λ l. (name ≡ listed_name l) × OwnFault k l) (order b)
