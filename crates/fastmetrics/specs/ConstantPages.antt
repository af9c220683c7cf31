-- The document of a root whose metrics are all constants: the history says which text it is.
use Rattle.std.specs.Prelude.{◌≡◌, pos, List, [], ◌∷◌, ◌++◌, map, None, codes}
use Rattle.std.specs.List.{flat_map}
use Rattle.std.specs.Option.{option_map}
use Rattle.fm_grammar.specs.Exposition.{Text, Family, Whole, Fixed}
use Rattle.fm_grammar.specs.LabelPairs.{labels_of}
use Rattle.fm_exposition.specs.Rows.{head_rows, sample_rows}
use Rattle.fm_registry_rules.specs.Registration.{printed_unit}
use Rattle.fm_registry_rules.specs.Listing.{Listed, listed_name}
use Rattle.fm_labels.specs.Labels.{emitted_again}
use Rattle.fm_encoder.specs.Points.{Point, UnknownPoint, GaugePoint, CounterPoint, InfoPoint, Member, members_samples, millis}
use Rattle.fm_encoder.specs.Offers.{context_at}
use Rattle.fm_metrics.specs.Constants.{constant_total, constant_created, constant_value, unknown_value, label_set_of}
use Rattle.fm_histogram.specs.Shown.{point_of, gauge_point_of, alone}
use Rattle.fastmetrics.specs.declared.registry.kinds.constant.Constant.{Constant}
use Rattle.fastmetrics.specs.declared.registry.kinds.constant.Constant.TheVariants as constant
use Rattle.fastmetrics.specs.declared.registry.kinds.Metric.{Metric}
use Rattle.fastmetrics.specs.declared.registry.kinds.Metric.TheVariants as metric

-- the point of a constant
abbrev pub constant_point : Constant → Point
constant_point (constant.Info x) = InfoPoint (emitted_again (labels_of (label_set_of x).items))
constant_point (constant.Counter x) = CounterPoint (Whole (pos (constant_total x)) ∷ []) [] (option_map millis (constant_created x))
constant_point (constant.FixedCounter x) = CounterPoint (Fixed (constant_total x) ∷ []) [] (option_map millis (constant_created x))
constant_point (constant.Gauge x) = GaugePoint (Whole (constant_value x) ∷ [])
constant_point (constant.FixedGauge x) = GaugePoint (Fixed (constant_value x) ∷ [])
constant_point (constant.Unknown x) = UnknownPoint (Whole (unknown_value x) ∷ [])
constant_point (constant.FixedUnknown x) = UnknownPoint (Fixed (unknown_value x) ∷ [])
constant_point (constant.Histogram s) = point_of s None
constant_point (constant.GaugeHistogram s) = gauge_point_of s

module _ {H X : Type 0} where
  -- the listed metric is a constant
  abbrev pub IsConstant : Listed (Metric H X) → Type 0
  IsConstant l = (x : Constant) × (l.registration.metric ≡ metric.Constant x)

  -- the only members that a constant can offer
  abbrev pub constant_members : Metric H X → List Member
  constant_members (metric.Constant x) = alone (constant_point x) ∷ []
  constant_members _ = []

  -- the family of a listed constant
  abbrev pub constant_family : Listed (Metric H X) → Family
  constant_family l =
      let r = l.registration in
      record {
        name = listed_name l;
        metric_type = r.metric_type;
        help = r.help;
        unit = printed_unit r.unit;
        samples = members_samples (context_at (listed_name l) r.metric_type l.labels None) (constant_members r.metric);
      }

  -- the document of listed constants
  abbrev pub constants_page : List (Listed (Metric H X)) → Text
  constants_page ls = flat_map (λ family. head_rows family ++ sample_rows family.name family.samples) (map constant_family ls) ++ codes "# EOF\n"
