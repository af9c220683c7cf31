-- Points whose parts are valid whatever their labels are, and members that have such points.
use Rattle.std.specs.Prelude.{◌≡◌, List, length}
use Rattle.fm_grammar.specs.declared.MetricType.{MetricType}
use Rattle.fm_grammar.specs.Exposition.{Text}
use Rattle.fm_grammar.specs.LabelPairs.{labels_with}
use Rattle.fm_labels.specs.Labels.{emitted_again}
use Rattle.fm_encoder.specs.Points.{Point, UnknownPoint, GaugePoint, CounterPoint, StateSetPoint, InfoPoint, HistogramPoint, GaugeHistogramPoint, SummaryPoint, Member, NumberValid, ExemplarValid, BucketsValid, type_of}

-- its parts are valid, and it has no labels of its own besides those that its type reserves
abbrev pub IsPlain : Point → Type 0
IsPlain (UnknownPoint numbers) = NumberValid numbers
IsPlain (GaugePoint numbers) = NumberValid numbers
IsPlain (CounterPoint numbers exemplars created) = NumberValid numbers × ExemplarValid exemplars
IsPlain (StateSetPoint states) = ⊥
IsPlain (InfoPoint labels) = ⊥
IsPlain (HistogramPoint buckets slots count sum created) = BucketsValid buckets slots
IsPlain (GaugeHistogramPoint buckets slots count sum) = BucketsValid buckets slots
IsPlain (SummaryPoint quantiles sum count created) = Unit {0}

-- a member with labels of these names and such a point of the type
pub record IsNamed (type : MetricType) (names : List Text) (member : Member) : Type 0 where
  pub values : List Text
  pub many : length values ≡ length names
  pub labels : member.labels ≡ emitted_again (labels_with names values)
  pub same_type : type_of member.point ≡ type
  pub plain : IsPlain member.point
