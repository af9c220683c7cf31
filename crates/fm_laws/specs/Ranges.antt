-- Offers whose numbers are in range. This does not say that labels are valid or that samples are well formed.
use Rattle.std.specs.Prelude.{◌<◌, ◌^◌, List, IfSome}
use Rattle.std.specs.List.{AllByRecursion}
use Rattle.fm_grammar.specs.Exposition.{Fixed}
use Rattle.fm_grammar.specs.WellFormed.{IsBetween, AreMillis, ValueFits}
use Rattle.fm_encoder.specs.Points.{EmittedExemplar, Point, UnknownPoint, GaugePoint, CounterPoint, StateSetPoint, InfoPoint, HistogramPoint, GaugeHistogramPoint, SummaryPoint, Member, Context}
use Rattle.fm_encoder.specs.inside.Steps.{IsNumber}

-- an exemplar's value and time
pub record ExemplarNumbersFit (exemplar : EmittedExemplar) : Type 0 where
  pub value : IsBetween (2 ^ 63) (2 ^ 63) exemplar.value
  pub time : IfSome exemplar.time AreMillis

-- each exemplar's value and time
abbrev pub SlotsFit : List (List EmittedExemplar) → Type 0
SlotsFit slots = AllByRecursion (λ exemplars. AllByRecursion ExemplarNumbersFit exemplars) slots

-- a point's numbers, its exemplars' values and times, and its time of creation
abbrev pub PointNumbersFit : Point → Type 0
PointNumbersFit (UnknownPoint numbers) = AllByRecursion IsNumber numbers
PointNumbersFit (GaugePoint numbers) = AllByRecursion IsNumber numbers
PointNumbersFit (CounterPoint numbers exemplars created) =
    AllByRecursion IsNumber numbers × AllByRecursion ExemplarNumbersFit exemplars × IfSome created AreMillis
PointNumbersFit (StateSetPoint states) = Unit {0}
PointNumbersFit (InfoPoint labels) = Unit {0}
PointNumbersFit (HistogramPoint buckets slots count sum created) =
    SlotsFit slots × (count < 2 ^ 64) × ValueFits (Fixed sum) × IfSome created AreMillis
PointNumbersFit (GaugeHistogramPoint buckets slots count sum) = SlotsFit slots × (count < 2 ^ 64) × ValueFits (Fixed sum)
PointNumbersFit (SummaryPoint quantiles sum count created) =
    AllByRecursion (λ quantile. ValueFits (Fixed quantile.value)) quantiles × (count < 2 ^ 64) × ValueFits (Fixed sum) × IfSome created AreMillis

-- the family's timestamp, and the numbers of each member's point
pub record NumbersFit (context : Context) (members : List Member) : Type 0 where
  pub time : IfSome context.setting.time AreMillis
  pub points : AllByRecursion (λ member. PointNumbersFit member.point) members
