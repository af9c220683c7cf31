-- Points and members as they are emitted, when they are valid, which faults they can have, and their samples.
use Rattle.std.specs.Prelude.{◌≡◌, ◌≢◌, ◌≤◌, ◌<◌, ◌/◌, ◌^◌, ℕ, ℤ, pos, Bool, List, [], ◌∷◌, ◌++◌, map, length, sum_by, Contains, Option, Some, None, ◌⊎◌, if◌then◌else◌, codes}
use Rattle.std.specs.List.{AllByRecursion, flat_map}
use Rattle.std.specs.Option.{option_to_list}
use Rattle.std.specs.Duration.{as_nanos}
use Rattle.std.specs.declared.time.Duration.{Duration}
use Rattle.fm_grammar.specs.declared.MetricType.{MetricType}
use Rattle.fm_grammar.specs.declared.MetricType.TheVariants.{Unknown, Gauge, Counter, StateSet, Info as InfoType, Histogram, GaugeHistogram, Summary}
use Rattle.fm_grammar.specs.declared.SampleKind.{SampleKind}
use Rattle.fm_grammar.specs.declared.SampleKind.TheVariants.{Plain, Total, Created, Bucket as BucketKind, Count, Sum, GCount, GSum, Info}
use Rattle.fm_grammar.specs.Exposition.{Text, Label, Value, Whole, Fixed, Millis, Exemplar, Sample}
use Rattle.fm_grammar.specs.Numbers.{fixed_text}
use Rattle.fm_grammar.specs.WellFormed.{label_code_points, IsSample}
use Rattle.fm_raw.specs.declared.encode_error.EncodeError.{EncodeError}
use Rattle.fm_raw.specs.declared.encode_error.EncodeError.TheVariants.{DuplicateLabel, KindMismatch, MissingValue, ValueTwice, ExemplarCountMismatch, BucketOverflow, ExemplarTwice, ExemplarTooLong}
use Rattle.fm_raw.specs.BoundTests.{bound_text}
use Rattle.fm_raw.specs.declared.bucket.bound.Bound.{Bound}
use Rattle.fm_raw.specs.declared.bucket.bound.Bucket.{Bucket}
use Rattle.fm_raw.specs.declared.quantile.Quantile.{Quantile}
use Rattle.fm_labels.specs.Labels.{EmittedLabel, LabelsFault, LabelsValid, all_written, emitted_again, label_names}

-- the whole milliseconds of a duration
abbrev pub millis : Duration → ℕ
millis duration = as_nanos duration / 1000000

-- an exemplar as it is emitted; its value is in millionths, its time in milliseconds
pub record EmittedExemplar : Type 0 where
  pub labels : List EmittedLabel
  pub value : ℤ
  pub time : Option ℕ

-- A point as it is emitted. A value is the list of the numbers that its source wrote, an exemplar the list of the
-- exemplars that its source wrote, a time of creation is in milliseconds. Buckets have their own counts, and each a slot for
-- an exemplar; after them come how many values there are, and the values' sum in millionths. A summary has quantiles, the values' sum,
-- and how many there are.
pub data Point : Type 0 where
  UnknownPoint : List Value → Point
  GaugePoint : List Value → Point
  CounterPoint : List Value → List EmittedExemplar → Option ℕ → Point
  StateSetPoint : List (Text × Bool) → Point
  InfoPoint : List EmittedLabel → Point
  HistogramPoint : List Bucket → List (List EmittedExemplar) → ℕ → ℤ → Option ℕ → Point
  GaugeHistogramPoint : List Bucket → List (List EmittedExemplar) → ℕ → ℤ → Point
  SummaryPoint : List Quantile → ℤ → ℕ → Option ℕ → Point

-- a member: its labels, each as its pieces, and its point
pub record Member : Type 0 where
  pub labels : List EmittedLabel
  pub point : Point

-- the setting of a metric's points: the family's printed name, its type, and its timestamp in milliseconds
pub record Setting : Type 0 where
  pub name : Text
  pub metric_type : MetricType
  pub time : Option ℕ

-- the context of a metric's members: the same, and the constant labels
pub record Context : Type 0 where
  pub setting : Setting
  pub constants : List Label

-- the type that a point belongs to
abbrev pub type_of : Point → MetricType
type_of (UnknownPoint numbers) = Unknown
type_of (GaugePoint numbers) = Gauge
type_of (CounterPoint numbers exemplars created) = Counter
type_of (StateSetPoint states) = StateSet
type_of (InfoPoint labels) = InfoType
type_of (HistogramPoint buckets slots count sum created) = Histogram
type_of (GaugeHistogramPoint buckets slots count sum) = GaugeHistogram
type_of (SummaryPoint quantiles sum count created) = Summary

-- the source of a value wrote exactly one number
abbrev pub NumberValid : List Value → Type 0
NumberValid numbers = (number : Value) × (numbers ≡ number ∷ [])

abbrev pub NumberFault : EncodeError → List Value → Type 0
NumberFault MissingValue numbers = numbers ≡ []
NumberFault ValueTwice numbers = 2 ≤ length numbers
NumberFault _ numbers = ⊥

-- The parts of one exemplar: valid labels of at most 128 code points. Exemplar labels have no reserved names, as those of an
-- unknown metric have none.
abbrev pub ExemplarPartsValid : EmittedExemplar → Type 0
ExemplarPartsValid exemplar = LabelsValid Unknown [] exemplar.labels × (label_code_points (all_written exemplar.labels) ≤ 128)

abbrev pub ExemplarPartsFault : EncodeError → EmittedExemplar → Type 0
ExemplarPartsFault k exemplar = LabelsFault k Unknown [] exemplar.labels ⊎ ((k ≡ ExemplarTooLong) × (128 < label_code_points (all_written exemplar.labels)))

-- the source of an exemplar wrote nothing, or one valid exemplar
abbrev pub ExemplarValid : List EmittedExemplar → Type 0
ExemplarValid exemplars = (exemplars ≡ []) ⊎ ((exemplar : EmittedExemplar) × (exemplars ≡ exemplar ∷ []) × ExemplarPartsValid exemplar)

abbrev pub ExemplarFault : EncodeError → List EmittedExemplar → Type 0
ExemplarFault k exemplars =
    ((k ≡ ExemplarTwice) × (2 ≤ length exemplars))
    ⊎ ((exemplar : EmittedExemplar) × Contains exemplars exemplar × ExemplarPartsFault k exemplar)

-- how many values the buckets have together
abbrev pub values_in : List Bucket → ℕ
values_in = sum_by (λ bucket. bucket.count)

-- each bucket has a slot, the buckets have fewer than 2^64 values, and each slot is valid
abbrev pub BucketsValid : List Bucket → List (List EmittedExemplar) → Type 0
BucketsValid buckets slots = (length slots ≡ length buckets) × (values_in buckets < 2 ^ 64) × AllByRecursion ExemplarValid slots

-- too many values, or the fault of a slot
abbrev pub BucketsFault : EncodeError → List Bucket → List (List EmittedExemplar) → Type 0
BucketsFault k buckets slots =
    ((k ≡ BucketOverflow) × (2 ^ 64 ≤ values_in buckets))
    ⊎ ((exemplars : List EmittedExemplar) × Contains slots exemplars × ExemplarFault k exemplars)

-- the point has buckets, and slots of another number
abbrev pub SlotsDiffer : Point → Type 0
SlotsDiffer (HistogramPoint buckets slots count sum created) = ¬ (length slots ≡ length buckets)
SlotsDiffer (GaugeHistogramPoint buckets slots count sum) = ¬ (length slots ≡ length buckets)
SlotsDiffer _ = ⊥

-- the parts of a point of its family's type are valid, under these common labels
abbrev pub PartsValid : Setting → List Label → Point → Type 0
PartsValid setting common (UnknownPoint numbers) = NumberValid numbers
PartsValid setting common (GaugePoint numbers) = NumberValid numbers
PartsValid setting common (CounterPoint numbers exemplars created) = NumberValid numbers × ExemplarValid exemplars
PartsValid setting common (StateSetPoint states) = (states ≡ []) ⊎ (¬ (Contains (label_names common) setting.name))
PartsValid setting common (InfoPoint labels) = LabelsValid setting.metric_type common labels
PartsValid setting common (HistogramPoint buckets slots count sum created) = BucketsValid buckets slots
PartsValid setting common (GaugeHistogramPoint buckets slots count sum) = BucketsValid buckets slots
PartsValid setting common (SummaryPoint quantiles sum count created) = Unit {0}

abbrev pub PartsFault : EncodeError → Setting → List Label → Point → Type 0
PartsFault k setting common (UnknownPoint numbers) = NumberFault k numbers
PartsFault k setting common (GaugePoint numbers) = NumberFault k numbers
PartsFault k setting common (CounterPoint numbers exemplars created) = NumberFault k numbers ⊎ ExemplarFault k exemplars
PartsFault k setting common (StateSetPoint states) = (k ≡ DuplicateLabel) × (¬ (states ≡ [])) × Contains (label_names common) setting.name
PartsFault k setting common (InfoPoint labels) = LabelsFault k setting.metric_type common labels
PartsFault k setting common (HistogramPoint buckets slots count sum created) = BucketsFault k buckets slots
PartsFault k setting common (GaugeHistogramPoint buckets slots count sum) = BucketsFault k buckets slots
PartsFault k setting common (SummaryPoint quantiles sum count created) = ⊥

-- the fault is in the point, whatever its labels are: in its type, or in the number of its slots
abbrev pub HeadFault : EncodeError → Setting → Point → Type 0
HeadFault k setting point = ((k ≡ KindMismatch) × (type_of point ≢ setting.metric_type)) ⊎ ((k ≡ ExemplarCountMismatch) × SlotsDiffer point)

-- the fault is in the point
abbrev pub PointFault : EncodeError → Setting → List Label → Point → Type 0
PointFault k setting common point = HeadFault k setting point ⊎ PartsFault k setting common point

-- an exemplar as a sample has it
abbrev pub written_as : EmittedExemplar → Exemplar
written_as emitted = record { labels = all_written emitted.labels; value = emitted.value; time = emitted.time }

-- the exemplar that a sample has, if any
abbrev pub written_exemplar : List EmittedExemplar → Option Exemplar
written_exemplar [] = None
written_exemplar (emitted ∷ more) = Some (written_as emitted)

-- the own label of a bucket with this bound
abbrev pub bound_label : Bound → Label
bound_label bound = record { name = codes "le"; value = bound_text bound }

-- samples under a setting, with these common labels
module _ (setting : Setting) (common : List Label) where
  -- a sample without exemplar, whose own labels come after the common ones
  abbrev pub plain_sample : SampleKind → List Label → Value → Sample
  plain_sample k own v = record { kind = k; labels = common ++ own; value = v; time = setting.time; exemplar = None }

  -- a `Created` sample, if there is one
  abbrev pub created_samples : Option ℕ → List Sample
  created_samples created = map (λ t. plain_sample Created [] (Millis t)) (option_to_list created)

  -- the sample of a bucket after others: it shows how many values these and the bucket have together
  abbrev pub bucket_sample : List Bucket → Bucket → List EmittedExemplar → Sample
  bucket_sample before bucket exemplars =
      record (plain_sample BucketKind (bound_label bucket.upper_bound ∷ []) (Whole (pos (values_in (before ++ bucket ∷ [])))))
      { exemplar = written_exemplar exemplars }

  -- a sample for each bucket and its slot
  abbrev pub bucket_samples : List Bucket → List Bucket → List (List EmittedExemplar) → List Sample
  bucket_samples before (bucket ∷ buckets) (exemplars ∷ slots) =
      bucket_sample before bucket exemplars ∷ bucket_samples (before ++ bucket ∷ []) buckets slots
  bucket_samples before _ _ = []

  -- how many values there are, and their sum, in samples of these kinds
  abbrev pub total_samples : SampleKind → SampleKind → ℕ → ℤ → List Sample
  total_samples of_count of_sum count sum =
      plain_sample of_count [] (Whole (pos count)) ∷ plain_sample of_sum [] (Fixed sum) ∷ []

  -- The samples of a valid point, in order. That of a state has 1 if the state is on, else 0.
  abbrev pub point_samples : Point → List Sample
  point_samples (UnknownPoint numbers) = map (plain_sample Plain []) numbers
  point_samples (GaugePoint numbers) = map (plain_sample Plain []) numbers
  point_samples (CounterPoint numbers exemplars created) =
      map (λ number. record (plain_sample Total [] number) { exemplar = written_exemplar exemplars }) numbers ++ created_samples created
  point_samples (StateSetPoint states) =
      map (λ state. plain_sample Plain (record { name = setting.name; value = state.0 } ∷ []) (Whole (pos (if state.1 then 1 else 0)))) states
  point_samples (InfoPoint labels) = plain_sample Info (all_written labels) (Whole (pos 1)) ∷ []
  point_samples (HistogramPoint buckets slots count sum time) =
      bucket_samples [] buckets slots ++ (total_samples Count Sum count sum ++ created_samples time)
  point_samples (GaugeHistogramPoint buckets slots count sum) =
      bucket_samples [] buckets slots ++ total_samples GCount GSum count sum
  point_samples (SummaryPoint quantiles sum count created) =
      map (λ q. plain_sample Plain (record { name = codes "quantile"; value = fixed_text q.quantile } ∷ []) (Fixed q.value)) quantiles
      ++ (total_samples Count Sum count sum ++ created_samples created)

-- the point has its family's type, its parts are valid, and its samples are well formed
pub record PointValid (setting : Setting) (common : List Label) (point : Point) : Type 0 where
  pub type : type_of point ≡ setting.metric_type
  pub parts : PartsValid setting common point
  pub formed : AllByRecursion (IsSample setting.metric_type) (point_samples setting common point)

-- the labels that come first in each sample of a member: the constant ones, and then the member's
abbrev pub common_emitted : Context → Member → List EmittedLabel
common_emitted context member = emitted_again context.constants ++ member.labels

abbrev pub common_written : Context → Member → List Label
common_written context member = all_written (common_emitted context member)

abbrev pub MemberValid : Context → Member → Type 0
MemberValid context member =
    LabelsValid context.setting.metric_type [] (common_emitted context member)
    × PointValid context.setting (common_written context member) member.point

-- the fault is in the member
abbrev pub MemberFault : EncodeError → Context → Member → Type 0
MemberFault k context member =
    LabelsFault k context.setting.metric_type [] (common_emitted context member)
    ⊎ PointFault k context.setting (common_written context member) member.point

abbrev pub MembersValid : Context → List Member → Type 0
MembersValid context = AllByRecursion (MemberValid context)

-- the fault is in one of the members
abbrev pub MembersFault : EncodeError → Context → List Member → Type 0
MembersFault k context [] = ⊥
MembersFault k context (member ∷ members) = MemberFault k context member ⊎ MembersFault k context members

-- the samples of a valid offer, member by member
abbrev pub members_samples : Context → List Member → List Sample
members_samples context = flat_map (λ member. point_samples context.setting (common_written context member) member.point)
