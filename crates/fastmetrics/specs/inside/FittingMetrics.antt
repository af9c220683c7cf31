-- Which metrics fit a registry of a root, so that no scrape is refused for what is in them. Those of the program's own always fit, and
-- may have the faults that they declare.
use Rattle.std.specs.Prelude.{◌≡◌, ◌<◌, ◌^◌, ℕ, List, Contains, Option, Some, IfSome}
use Rattle.fm_grammar.specs.declared.MetricType.{MetricType}
use Rattle.fm_grammar.specs.declared.MetricType.TheVariants as type
use Rattle.fm_grammar.specs.LabelPairs.{labels_of}
use Rattle.std.specs.Option.{option_map}
use Rattle.fm_raw.specs.declared.encode_error.EncodeError.{EncodeError}
use Rattle.fm_raw.specs.declared.metadata.Unit as unit
use Rattle.fm_raw.specs.Units.{seen_unit}
use Rattle.fm_registry_rules.specs.Registration.{printed_unit}
use Rattle.fm_labels.specs.Labels.{label_names}
use Rattle.fm_labels.specs.inside.FittingNames.{NamesFit}
use Rattle.fm_labels.specs.inside.FreeLabels.{AreFree}
use Rattle.fm_registry_rules.specs.Texts.{Text, Labels, Path, printed_name}
use Rattle.fm_registry_rules.specs.Tree.{Tree, subtree_from}
use Rattle.fm_registry_rules.specs.Listing.{Listed, listed_name}
use Rattle.fm_encoder.specs.Points.{Member, values_in}
use Rattle.fm_encoder.specs.Offers.{MetricHasFault}
use Rattle.fm_metrics.specs.Constants.{label_set_of}
use Rattle.fm_histogram.specs.Histogram.{Histogram}
use Rattle.fastmetrics.specs.Fits.{family_type, family_names}
use Rattle.fastmetrics.specs.declared.registry.kinds.scalar.Scalar.{Scalar}
use Rattle.fastmetrics.specs.declared.registry.kinds.scalar.Scalar.TheVariants as scalar
use Rattle.fastmetrics.specs.declared.registry.kinds.named_family.NamedFamily.{NamedFamily}
use Rattle.fastmetrics.specs.declared.registry.kinds.named_family.NamedFamily.TheVariants as family
use Rattle.fastmetrics.specs.declared.registry.kinds.constant.Constant.{Constant}
use Rattle.fastmetrics.specs.declared.registry.kinds.constant.Constant.TheVariants as constant
use Rattle.fastmetrics.specs.declared.registry.kinds.Metric.{Metric}
use Rattle.fastmetrics.specs.declared.registry.kinds.Metric.TheVariants as metric

-- the type of a metric
abbrev pub scalar_type : Scalar → MetricType
scalar_type (scalar.Counter x) = type.Counter
scalar_type (scalar.FixedCounter x) = type.Counter
scalar_type (scalar.Gauge x) = type.Gauge
scalar_type (scalar.FixedGauge x) = type.Gauge

abbrev pub constant_type : Constant → MetricType
constant_type (constant.Info x) = type.Info
constant_type (constant.Counter x) = type.Counter
constant_type (constant.FixedCounter x) = type.Counter
constant_type (constant.Gauge x) = type.Gauge
constant_type (constant.FixedGauge x) = type.Gauge
constant_type (constant.Unknown x) = type.Unknown
constant_type (constant.FixedUnknown x) = type.Unknown
constant_type (constant.Histogram s) = type.Histogram
constant_type (constant.GaugeHistogram s) = type.GaugeHistogram

-- a snapshot of fewer than 2^64 values, as all are, in a family of this type
abbrev pub SnapshotFits : MetricType → Labels → Histogram → Type 0
SnapshotFits type labels s = AreFree type labels × (values_in s.buckets < 2 ^ 64)

-- a constant under these constant labels: the names of an info's facts may follow them
abbrev pub ConstantFits : Labels → Constant → Type 0
ConstantFits labels (constant.Info x) = NamesFit type.Info labels (label_names (labels_of (label_set_of x).items))
ConstantFits labels (constant.Histogram s) = SnapshotFits type.Histogram labels s
ConstantFits labels (constant.GaugeHistogram s) = SnapshotFits type.GaugeHistogram labels s
ConstantFits labels _ = Unit {0}

module _ {H : Type 0} where
  -- a family under these constant labels
  abbrev pub FamilyFits : Labels → NamedFamily H → Type 0
  FamilyFits labels f = AreFree (family_type f) labels × NamesFit (family_type f) labels (family_names f)

module _ {H X : Type 0} where
  -- a metric that is printed under this name, under these constant labels
  abbrev pub FitsUnder : Text → Labels → Metric H X → Type 0
  FitsUnder name labels (metric.Scalar x) = Unit {0}
  FitsUnder name labels (metric.Histogram x) = AreFree type.Histogram labels
  FitsUnder name labels (metric.GaugeHistogram x) = AreFree type.GaugeHistogram labels
  FitsUnder name labels (metric.Family x) = FamilyFits labels x
  FitsUnder name labels (metric.States x) = ¬ (Contains (label_names labels) name)
  FitsUnder name labels (metric.Constant x) = ConstantFits labels x
  FitsUnder name labels (metric.Own x) = Unit {0}

  -- the type is the metric's, whatever that of a metric of the program's own is
  abbrev pub HasType : Metric H X → MetricType → Type 0
  HasType (metric.Scalar x) t = t ≡ scalar_type x
  HasType (metric.Histogram x) t = t ≡ type.Histogram
  HasType (metric.GaugeHistogram x) t = t ≡ type.GaugeHistogram
  HasType (metric.Family x) t = t ≡ family_type x
  HasType (metric.States x) t = t ≡ type.StateSet
  HasType (metric.Constant x) t = t ≡ constant_type x
  HasType (metric.Own x) t = Unit {0}

  -- a listed metric
  abbrev pub Fits : Listed (Metric H X) → Type 0
  Fits l = HasType l.registration.metric l.registration.metric_type × FitsUnder (listed_name l) l.labels l.registration.metric

  -- a metric that is registered at this path
  abbrev pub FitsUnderAt : Tree (Metric H X) → Path → Text → Option unit.Unit → Metric H X → Type 0
  FitsUnderAt t path name u m = IfSome (subtree_from (Some t) path) (λ c. FitsUnder (printed_name c.facts.namespace name (printed_unit (option_map seen_unit u))) c.facts.labels m)
