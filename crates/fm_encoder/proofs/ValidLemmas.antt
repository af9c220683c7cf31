-- What is valid has no fault, part by part.
use Rattle.std.proofs.Common.{◌≡◌, zero, suc, ◌<◌, ◌≤◌, ◌⊎◌, List, [], ◌∷◌, length, inl, inr, sym, subst, arith}
use Rattle.std.specs.Prelude.{Contains}
use Rattle.std.specs.List.{AllByRecursion}
use Rattle.fm_grammar.specs.declared.MetricType.{MetricType}
use Rattle.fm_grammar.specs.declared.MetricType.TheVariants.{Unknown}
use Rattle.fm_grammar.specs.Exposition.{Text, Label, Value}
use Rattle.fm_grammar.specs.WellFormed.{label_code_points}
use Rattle.fm_raw.specs.declared.encode_error.EncodeError.{EncodeError}
use Rattle.fm_raw.specs.declared.encode_error.EncodeError.TheVariants.{InvalidLabelName, ReservedLabel, DuplicateLabel, MissingValue, ValueTwice}
use Rattle.fm_raw.specs.declared.bucket.bound.Bucket.{Bucket}
use Rattle.fm_labels.specs.Labels.{EmittedLabel, NamePiece, ValuePiece, NameFits, NameFault, LabelValid, LabelFault, LabelsValid, LabelsFault, all_written}
use Rattle.fm_encoder.specs.Points.{EmittedExemplar, Point, UnknownPoint, GaugePoint, CounterPoint, StateSetPoint, InfoPoint, HistogramPoint, GaugeHistogramPoint, SummaryPoint, Member, Setting, Context, NumberValid, NumberFault, ExemplarValid, ExemplarFault, BucketsValid, BucketsFault, PartsValid, PartsFault, PointFault, SlotsDiffer, type_of, MemberFault, MembersValid, MembersFault, common_emitted, common_written}

-- elements of short lists

contains_none : {X : Type 0} (x : X) → Contains [] x → ⊥
contains_none x (k, below, is) = let h : k < 0 = below in omega (arith, h)

contains_one : {X : Type 0} (x y : X) → Contains (x ∷ []) y → x ≡ y
contains_one x y (zero, below, is) = is
contains_one x y (suc k, below, is) = let h : suc k < 1 = below in absurd (omega (arith, h))

contains_two : {X : Type 0} (x z y : X) → Contains (x ∷ z ∷ []) y → (x ≡ y) ⊎ (z ≡ y)
contains_two x z y (zero, below, is) = inl is
contains_two x z y (suc zero, below, is) = inr is
contains_two x z y (suc (suc k), below, is) = let h : suc (suc k) < 2 = below in absurd (omega (arith, h))

all_at : {X : Type 0} (P : X → Type 0) (xs : List X) → AllByRecursion P xs → (x : X) → Contains xs x → P x
all_at P [] all x there = absurd (contains_none x there)
all_at P (y ∷ ys) all x (zero, below, is) = subst P is all.0
all_at P (y ∷ ys) all x (suc k, below, is) = let h : suc k < suc (length ys) = below in all_at P ys all.1 x (k, omega (arith, h), is)

-- labels

name_valid : (k : EncodeError) (type : MetricType) (before : List Label) (name : Text) → NameFits type before name → ¬ (NameFault k type before name)
name_valid InvalidLabelName type before name fits fault = fault fits.valid
name_valid ReservedLabel type before name fits fault = fits.free fault
name_valid DuplicateLabel type before name fits fault = fits.fresh fault
name_valid _ type before name fits fault = fault

nothing_valid : (k : EncodeError) (type : MetricType) (before : List Label) → ¬ (LabelFault k type before [])
nothing_valid k type before (inl (is, malformed)) = malformed
nothing_valid k type before (inr (name, there, fault)) = contains_none _ there

pair_valid : (k : EncodeError) (type : MetricType) (before : List Label) (name text : Text) → NameFits type before name → ¬ (LabelFault k type before (NamePiece name ∷ ValuePiece text ∷ []))
pair_valid k type before name text fits (inl (is, malformed)) = malformed
pair_valid k type before name text fits (inr (other, there, fault)) = elim (contains_two (NamePiece name) (ValuePiece text) (NamePiece other) there) [
  | inl same ↦ (let e : other ≡ name = cc same in name_valid k type before name fits (subst (NameFault k type before) e fault))
  | inr bad ↦ cc bad
]

label_valid : (k : EncodeError) (type : MetricType) (before : List Label) (label : EmittedLabel) → LabelValid type before label → ¬ (LabelFault k type before label)
label_valid k type before label (inl none) fault = nothing_valid k type before (subst (LabelFault k type before) none fault)
label_valid k type before label (inr (name, text, is, fits)) fault = pair_valid k type before name text fits (subst (LabelFault k type before) is fault)

labels_valid : (k : EncodeError) (type : MetricType) (before : List Label) (labels : List EmittedLabel) → LabelsValid type before labels → ¬ (LabelsFault k type before labels)
labels_valid k type before [] valid fault = fault
labels_valid k type before (label ∷ labels) valid (inl fault) = label_valid k type before label valid.0 fault
labels_valid k type before (label ∷ labels) valid (inr fault) = labels_valid k type _ labels valid.1 fault

-- points

number_valid : (k : EncodeError) (numbers : List Value) → NumberValid numbers → ¬ (NumberFault k numbers)
number_valid MissingValue numbers (number, is) fault = cc (is, fault)
number_valid ValueTwice numbers (number, is) fault = let P : List Value → Type 0 = λ ns. 2 ≤ length ns in let h : 2 ≤ 1 = subst P is fault in omega (arith, h)
number_valid _ numbers valid fault = fault

exemplar_valid : (k : EncodeError) (exemplars : List EmittedExemplar) → ExemplarValid exemplars → ¬ (ExemplarFault k exemplars)
exemplar_valid k exemplars (inl none) fault = by (subst (ExemplarFault k) none fault)
  where
    by : ¬ (ExemplarFault k [])
    by (inl (is, twice)) = let h : 2 ≤ 0 = twice in omega (arith, h)
    by (inr (exemplar, there, fault)) = contains_none _ there
exemplar_valid k exemplars (inr (exemplar, one, (valid, short))) fault = by (subst (ExemplarFault k) one fault)
  where
    labels_of_it : (other : EmittedExemplar) → exemplar ≡ other → ¬ (LabelsFault k Unknown [] other.labels)
    labels_of_it other same fault = labels_valid k Unknown [] exemplar.labels valid (let P : EmittedExemplar → Type 0 = λ e. LabelsFault k Unknown [] e.labels in subst P (sym same) fault)

    length_of_it : (other : EmittedExemplar) → exemplar ≡ other → ¬ (128 < label_code_points (all_written other.labels))
    length_of_it other same long = let P : EmittedExemplar → Type 0 = λ e. 128 < label_code_points (all_written e.labels) in let h : 128 < label_code_points (all_written exemplar.labels) = subst P (sym same) long in omega (arith, h, short)

    by : ¬ (ExemplarFault k (exemplar ∷ []))
    by (inl (is, twice)) = let h : 2 ≤ 1 = twice in omega (arith, h)
    by (inr (other, there, inl fault)) = labels_of_it other (contains_one exemplar other there) fault
    by (inr (other, there, inr (is, long))) = length_of_it other (contains_one exemplar other there) long

buckets_valid : (k : EncodeError) (buckets : List Bucket) (slots : List (List EmittedExemplar)) → BucketsValid buckets slots → ¬ (BucketsFault k buckets slots)
buckets_valid k buckets slots (even, few, all) (inl (is, many)) = omega (arith, few, many)
buckets_valid k buckets slots (even, few, all) (inr (exemplars, there, fault)) = exemplar_valid k exemplars (all_at ExemplarValid slots all exemplars there) fault

parts_valid : (k : EncodeError) (setting : Setting) (common : List Label) (point : Point) → PartsValid setting common point → ¬ (PartsFault k setting common point)
parts_valid k setting common (UnknownPoint numbers) valid fault = number_valid k numbers valid fault
parts_valid k setting common (GaugePoint numbers) valid fault = number_valid k numbers valid fault
parts_valid k setting common (CounterPoint numbers exemplars created) valid (inl fault) = number_valid k numbers valid.0 fault
parts_valid k setting common (CounterPoint numbers exemplars created) valid (inr fault) = exemplar_valid k exemplars valid.1 fault
parts_valid k setting common (StateSetPoint states) (inl none) fault = fault.1 none
parts_valid k setting common (StateSetPoint states) (inr fresh) fault = fresh fault.2
parts_valid k setting common (InfoPoint labels) valid fault = labels_valid k _ common labels valid fault
parts_valid k setting common (HistogramPoint buckets slots count sum created) valid fault = buckets_valid k buckets slots valid fault
parts_valid k setting common (GaugeHistogramPoint buckets slots count sum) valid fault = buckets_valid k buckets slots valid fault
parts_valid k setting common (SummaryPoint quantiles sum count created) valid fault = fault

slots_valid : (setting : Setting) (common : List Label) (point : Point) → PartsValid setting common point → ¬ (SlotsDiffer point)
slots_valid setting common (HistogramPoint buckets slots count sum created) valid differ = differ valid.0
slots_valid setting common (GaugeHistogramPoint buckets slots count sum) valid differ = differ valid.0
slots_valid setting common _ valid differ = differ

pub point_valid : (k : EncodeError) (setting : Setting) (common : List Label) (point : Point) → type_of point ≡ setting.metric_type → PartsValid setting common point → ¬ (PointFault k setting common point)
point_valid k setting common point type parts (inl (inl (is, mismatch))) = mismatch type
point_valid k setting common point type parts (inl (inr (is, differ))) = slots_valid setting common point parts differ
point_valid k setting common point type parts (inr fault) = parts_valid k setting common point parts fault

-- members

pub member_valid : (k : EncodeError) (context : Context) (member : Member) → LabelsValid context.setting.metric_type [] (common_emitted context member) → type_of member.point ≡ context.setting.metric_type → PartsValid context.setting (common_written context member) member.point → ¬ (MemberFault k context member)
member_valid k context member labels type parts (inl fault) = labels_valid k _ [] (common_emitted context member) labels fault
member_valid k context member labels type parts (inr fault) = point_valid k context.setting (common_written context member) member.point type parts fault

pub members_valid : (k : EncodeError) (context : Context) (members : List Member) → MembersValid context members → ¬ (MembersFault k context members)
members_valid k context [] valid fault = fault
members_valid k context (member ∷ members) valid (inl fault) = member_valid k context member valid.0.0 valid.0.1.type valid.0.1.parts fault
members_valid k context (member ∷ members) valid (inr fault) = members_valid k context members valid.1 fault
