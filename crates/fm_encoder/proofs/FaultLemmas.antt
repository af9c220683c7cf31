-- A fault in what is emitted is never the writer's.
use Rattle.std.proofs.Common.{◌≡◌, ℕ, List, [], ◌∷◌, Option, inl, inr, subst}
use Rattle.fm_grammar.specs.declared.MetricType.{MetricType}
use Rattle.fm_grammar.specs.Exposition.{Text, Label, Value}
use Rattle.fm_raw.specs.declared.encode_error.EncodeError.{EncodeError}
use Rattle.fm_raw.specs.declared.encode_error.EncodeError.TheVariants.{MalformedLabel, KindMismatch, DuplicateLabel, ExemplarCountMismatch, BucketOverflow, ExemplarTwice, ExemplarTooLong, MetricFault, Write, WriteZero}
use Rattle.fm_exposition.specs.Written.{IsWritersFault}
use Rattle.fm_raw.specs.declared.bucket.bound.Bucket.{Bucket}
use Rattle.fm_labels.specs.Labels.{EmittedLabel, NameFault, LabelFault, LabelsFault}
use Rattle.fm_encoder.specs.Points.{EmittedExemplar, Point, UnknownPoint, GaugePoint, CounterPoint, StateSetPoint, InfoPoint, HistogramPoint, GaugeHistogramPoint, SummaryPoint, Member, Setting, Context, NumberFault, ExemplarFault, BucketsFault, PartsFault, PointFault, MembersFault}
use Rattle.fm_encoder.specs.Offers.{MetricHasFault, context_at}

is_other : (k j : EncodeError) → k ≡ j → ¬ (IsWritersFault j) → ¬ (IsWritersFault k)
is_other k j e never writing = never (subst IsWritersFault e writing)

NameFault-not_writing : (k : EncodeError) (type : MetricType) (before : List Label) (name : Text) → NameFault k type before name → ¬ (IsWritersFault k)
NameFault-not_writing Write type before name fault writing = fault
NameFault-not_writing WriteZero type before name fault writing = fault
NameFault-not_writing _ type before name fault writing = writing

LabelFault-not_writing : (k : EncodeError) (type : MetricType) (before : List Label) (label : EmittedLabel) → LabelFault k type before label → ¬ (IsWritersFault k)
LabelFault-not_writing k type before label (inl (is, malformed)) = is_other k MalformedLabel is (λ never. never)
LabelFault-not_writing k type before label (inr (name, there, fault)) = NameFault-not_writing k type before name fault

LabelsFault-not_writing : (k : EncodeError) (type : MetricType) (before : List Label) (labels : List EmittedLabel) → LabelsFault k type before labels → ¬ (IsWritersFault k)
LabelsFault-not_writing k type before [] fault = absurd fault
LabelsFault-not_writing k type before (label ∷ labels) (inl fault) = LabelFault-not_writing k type before label fault
LabelsFault-not_writing k type before (label ∷ labels) (inr fault) = LabelsFault-not_writing k type _ labels fault

NumberFault-not_writing : (k : EncodeError) (numbers : List Value) → NumberFault k numbers → ¬ (IsWritersFault k)
NumberFault-not_writing Write numbers fault writing = fault
NumberFault-not_writing WriteZero numbers fault writing = fault
NumberFault-not_writing _ numbers fault writing = writing

ExemplarFault-not_writing : (k : EncodeError) (exemplars : List EmittedExemplar) → ExemplarFault k exemplars → ¬ (IsWritersFault k)
ExemplarFault-not_writing k exemplars (inl (is, twice)) = is_other k ExemplarTwice is (λ never. never)
ExemplarFault-not_writing k exemplars (inr (exemplar, there, inl fault)) = LabelsFault-not_writing k _ _ exemplar.labels fault
ExemplarFault-not_writing k exemplars (inr (exemplar, there, inr (is, long))) = is_other k ExemplarTooLong is (λ never. never)

BucketsFault-not_writing : (k : EncodeError) (buckets : List Bucket) (slots : List (List EmittedExemplar)) → BucketsFault k buckets slots → ¬ (IsWritersFault k)
BucketsFault-not_writing k buckets slots (inl (is, overflow)) = is_other k BucketOverflow is (λ never. never)
BucketsFault-not_writing k buckets slots (inr (exemplars, there, fault)) = ExemplarFault-not_writing k exemplars fault

PartsFault-not_writing : (k : EncodeError) (setting : Setting) (common : List Label) (point : Point) → PartsFault k setting common point → ¬ (IsWritersFault k)
PartsFault-not_writing k setting common (UnknownPoint numbers) fault = NumberFault-not_writing k numbers fault
PartsFault-not_writing k setting common (GaugePoint numbers) fault = NumberFault-not_writing k numbers fault
PartsFault-not_writing k setting common (CounterPoint numbers exemplars created) (inl fault) = NumberFault-not_writing k numbers fault
PartsFault-not_writing k setting common (CounterPoint numbers exemplars created) (inr fault) = ExemplarFault-not_writing k exemplars fault
PartsFault-not_writing k setting common (StateSetPoint states) fault = is_other k DuplicateLabel fault.0 (λ never. never)
PartsFault-not_writing k setting common (InfoPoint labels) fault = LabelsFault-not_writing k _ common labels fault
PartsFault-not_writing k setting common (HistogramPoint buckets slots count sum created) fault = BucketsFault-not_writing k buckets slots fault
PartsFault-not_writing k setting common (GaugeHistogramPoint buckets slots count sum) fault = BucketsFault-not_writing k buckets slots fault
PartsFault-not_writing k setting common (SummaryPoint quantiles sum count created) fault = absurd fault

PointFault-not_writing : (k : EncodeError) (setting : Setting) (common : List Label) (point : Point) → PointFault k setting common point → ¬ (IsWritersFault k)
PointFault-not_writing k setting common point (inl (inl (is, mismatch))) = is_other k KindMismatch is (λ never. never)
PointFault-not_writing k setting common point (inl (inr (is, differ))) = is_other k ExemplarCountMismatch is (λ never. never)
PointFault-not_writing k setting common point (inr fault) = PartsFault-not_writing k setting common point fault

MembersFault-not_writing : (k : EncodeError) (context : Context) (members : List Member) → MembersFault k context members → ¬ (IsWritersFault k)
MembersFault-not_writing k context [] fault = absurd fault
MembersFault-not_writing k context (member ∷ members) (inl (inl fault)) = LabelsFault-not_writing k _ [] _ fault
MembersFault-not_writing k context (member ∷ members) (inl (inr fault)) = PointFault-not_writing k context.setting _ member.point fault
MembersFault-not_writing k context (member ∷ members) (inr fault) = MembersFault-not_writing k context members fault

-- no metric has a fault that is the writer's
pub MetricHasFault-not_writing : (k : EncodeError) (Offers : Option ℕ → List Member → Type 0) (Stamps : Option ℕ → Type 0) (MayFault : Type 0) (name : Text) (type : MetricType) (constants : List Label) → MetricHasFault k Offers Stamps MayFault name type constants → ¬ (IsWritersFault k)
MetricHasFault-not_writing k Offers Stamps MayFault name type constants (inl (is, fault)) = is_other k MetricFault is (λ never. never)
MetricHasFault-not_writing k Offers Stamps MayFault name type constants (inr (members, stamp, stamped, offered, fault)) = MembersFault-not_writing k (context_at name type constants stamp) members fault
