-- Each part of an offer is valid, or it contains a fault.
use Rattle.std.proofs.Common.{◌≡◌, ℕ, suc, ◌<◌, ◌≤◌, ◌⊎◌, ◌++◌, ◌==◌, List, [], ◌∷◌, length, Bool, true, false, inl, inr, refl, sym, ap, true≢false, arith, Option, Some, None}
use Rattle.std.specs.Prelude.{Contains, bytes_eq, ◌^◌}
use Rattle.std.specs.Bool.{Decides}
use Rattle.std.specs.List.{AllByRecursion}
use Rattle.std.specs.Set.{is_member}
use Rattle.std.proofs.lemmas.Bool.Decides.{Decides-eqb, leb_tells}
use Rattle.std.proofs.lemmas.Slice.Eq.{bytes_eq-Decides}
use Rattle.std.proofs.lemmas.Map.Made.{is_member-Decides}
use Rattle.fm_grammar.specs.declared.MetricType.{MetricType}
use Rattle.fm_grammar.specs.declared.MetricType.TheVariants.{Unknown, Histogram, GaugeHistogram, Summary}
use Rattle.fm_grammar.specs.Exposition.{Text, Label, Value}
use Rattle.fm_grammar.specs.Kinds.{reserved_label}
use Rattle.fm_grammar.specs.NameTests.{is_label_name}
use Rattle.fm_grammar.specs.WellFormed.{label_code_points, IsSample}
use Rattle.fm_raw.proofs.NameLemmas.{label_name_decides}
use Rattle.fm_exposition.specs.inside.SameLaws.{type_decides}
use Rattle.fm_raw.specs.declared.encode_error.EncodeError.{EncodeError}
use Rattle.fm_raw.specs.declared.encode_error.EncodeError.TheVariants.{InvalidLabelName, ReservedLabel, DuplicateLabel, MalformedLabel, MissingValue, ValueTwice, KindMismatch, ExemplarCountMismatch, BucketOverflow, ExemplarTwice, ExemplarTooLong}
use Rattle.fm_raw.specs.declared.bucket.bound.Bucket.{Bucket}
use Rattle.fm_labels.specs.Labels.{EmittedLabel, NamePiece, ValuePiece, IsReserved, IsMalformed, NameFits, NameFault, LabelValid, LabelFault, LabelsValid, LabelsFault, label_names, all_written, written}
use Rattle.fm_encoder.specs.Points.{EmittedExemplar, Point, UnknownPoint, GaugePoint, CounterPoint, StateSetPoint, InfoPoint, HistogramPoint, GaugeHistogramPoint, SummaryPoint, Member, Setting, Context, NumberValid, NumberFault, ExemplarValid, ExemplarFault, BucketsValid, BucketsFault, PartsValid, PartsFault, PointValid, PointFault, SlotsDiffer, MemberValid, MemberFault, MembersValid, MembersFault, common_emitted, common_written, values_in, type_of, point_samples}

-- some error names a fault that it contains
abbrev pub SomeFault : (EncodeError → Type 0) → Type 0
SomeFault Fault = (k : EncodeError) × Fault k

known : {P : Type 0} (b : Bool) → Decides b P → P ⊎ (¬ P)
known true decides = inl (decides.0 refl)
known false decides = inr (λ p. true≢false (sym (decides.1 p)))

-- labels

text_known : (a b : Text) → (a ≡ b) ⊎ (¬ (a ≡ b))
text_known a b = known (bytes_eq a b) (bytes_eq-Decides a b)

there_known : (names : List Text) (name : Text) → Contains names name ⊎ (¬ (Contains names name))
there_known names name = known (is_member bytes_eq names name) (is_member-Decides bytes_eq-Decides names name)

some_known : (text : Option Text) (name : Text) → (text ≡ Some name) ⊎ (¬ (text ≡ Some name))
some_known None name = inr (λ is. absurd cc)
some_known (Some text) name = elim (text_known text name) [ inl same ↦ inl (ap Some same) | inr other ↦ inr (λ is. other cc) ]

reserved_known : (type : MetricType) (name : Text) → IsReserved type name ⊎ (¬ (IsReserved type name))
reserved_known type name = some_known (reserved_label type) name

name_or_fault : (type : MetricType) (before : List Label) (name : Text) → NameFits type before name ⊎ SomeFault (λ k. NameFault k type before name)
name_or_fault type before name = elim (known (is_label_name name) (label_name_decides name)) [
  | inr invalid ↦ inr (InvalidLabelName, invalid)
  | inl valid ↦ (elim (reserved_known type name) [
    | inl reserved ↦ inr (ReservedLabel, reserved)
    | inr free ↦ (elim (there_known (label_names before) name) [
      | inl there ↦ inr (DuplicateLabel, there)
      | inr fresh ↦ inl (record { valid = valid; free = free; fresh = fresh })
    ])
  ])
]

malformed : (type : MetricType) (before : List Label) (label : EmittedLabel) → IsMalformed label → LabelValid type before label ⊎ SomeFault (λ k. LabelFault k type before label)
malformed type before label bad = inr (MalformedLabel, inl (refl, bad))

label_or_fault : (type : MetricType) (before : List Label) (label : EmittedLabel) → LabelValid type before label ⊎ SomeFault (λ k. LabelFault k type before label)
label_or_fault type before [] = inl (inl refl)
label_or_fault type before (ValuePiece text ∷ pieces) = malformed type before (ValuePiece text ∷ pieces) tt
label_or_fault type before (NamePiece name ∷ []) = malformed type before (NamePiece name ∷ []) tt
label_or_fault type before (NamePiece name ∷ NamePiece other ∷ pieces) = malformed type before (NamePiece name ∷ NamePiece other ∷ pieces) tt
label_or_fault type before (NamePiece name ∷ ValuePiece text ∷ piece ∷ pieces) = malformed type before (NamePiece name ∷ ValuePiece text ∷ piece ∷ pieces) tt
label_or_fault type before (NamePiece name ∷ ValuePiece text ∷ []) = elim (name_or_fault type before name) [
  | inl fits ↦ inl (inr (name, text, refl, fits))
  | inr (k, fault) ↦ inr (k, inr (name, (0, omega arith, refl), fault))
]

labels_or_fault : (type : MetricType) (before : List Label) (labels : List EmittedLabel) → LabelsValid type before labels ⊎ SomeFault (λ k. LabelsFault k type before labels)
labels_or_fault type before [] = inl tt
labels_or_fault type before (label ∷ labels) = elim (label_or_fault type before label) [
  | inr (k, fault) ↦ inr (k, inl fault)
  | inl valid ↦ (elim (labels_or_fault type (before ++ written label) labels) [
    | inr (k, fault) ↦ inr (k, inr fault)
    | inl rest ↦ inl (valid, rest)
  ])
]

-- points

number_or_fault : (numbers : List Value) → NumberValid numbers ⊎ SomeFault (λ k. NumberFault k numbers)
number_or_fault [] = inr (MissingValue, refl)
number_or_fault (number ∷ []) = inl (number, refl)
number_or_fault (number ∷ other ∷ numbers) = inr (ValueTwice, omega arith)

at_most_or_more : (n m : ℕ) → (n ≤ m) ⊎ (m < n)
at_most_or_more n m = elim (leb_tells n m) [ inl few ↦ inl few.1 | inr more ↦ inr more.1 ]

exemplar_or_fault : (exemplars : List EmittedExemplar) → ExemplarValid exemplars ⊎ SomeFault (λ k. ExemplarFault k exemplars)
exemplar_or_fault [] = inl (inl refl)
exemplar_or_fault (exemplar ∷ other ∷ exemplars) = inr (ExemplarTwice, inl (refl, omega arith))
exemplar_or_fault (exemplar ∷ []) = elim (labels_or_fault Unknown [] exemplar.labels) [
  | inr (k, fault) ↦ inr (k, inr (exemplar, (0, omega arith, refl), inl fault))
  | inl valid ↦ (elim (at_most_or_more (label_code_points (all_written exemplar.labels)) 128) [
    | inl short ↦ inl (inr (exemplar, refl, (valid, short)))
    | inr long ↦ inr (ExemplarTooLong, inr (exemplar, (0, omega arith, refl), inr (refl, long)))
  ])
]

slots_or_fault : (slots : List (List EmittedExemplar)) → AllByRecursion ExemplarValid slots ⊎ SomeFault (λ k. (exemplars : List EmittedExemplar) × Contains slots exemplars × ExemplarFault k exemplars)
slots_or_fault [] = inl tt
slots_or_fault (slot ∷ slots) = elim (exemplar_or_fault slot) [
  | inr (k, fault) ↦ inr (k, (slot, (0, omega arith, refl), fault))
  | inl valid ↦ (elim (slots_or_fault slots) [
    | inr (k, (exemplars, (i, below, is), fault)) ↦ inr (k, (exemplars, (suc i, omega (arith, below), is), fault))
    | inl rest ↦ inl (valid, rest)
  ])
]

point_of_parts : (setting : Setting) (common : List Label) (point : Point) → PartsValid setting common point ⊎ SomeFault (λ k. PartsFault k setting common point) → PartsValid setting common point ⊎ SomeFault (λ k. PointFault k setting common point)
point_of_parts setting common point (inl valid) = inl valid
point_of_parts setting common point (inr (k, fault)) = inr (k, inr fault)

counter_or_fault : (setting : Setting) (common : List Label) (numbers : List Value) (exemplars : List EmittedExemplar) (created : _) → PartsValid setting common (CounterPoint numbers exemplars created) ⊎ SomeFault (λ k. PartsFault k setting common (CounterPoint numbers exemplars created))
counter_or_fault setting common numbers exemplars created = elim (number_or_fault numbers) [
  | inr (k, fault) ↦ inr (k, inl fault)
  | inl valid ↦ (elim (exemplar_or_fault exemplars) [
    | inr (k, fault) ↦ inr (k, inr fault)
    | inl rest ↦ inl (valid, rest)
  ])
]

states_or_fault : (setting : Setting) (common : List Label) (states : _) → PartsValid setting common (StateSetPoint states) ⊎ SomeFault (λ k. PartsFault k setting common (StateSetPoint states))
states_or_fault setting common [] = inl (inl refl)
states_or_fault setting common (state ∷ states) = elim (there_known (label_names common) setting.name) [
  | inr fresh ↦ inl (inr fresh)
  | inl there ↦ inr (DuplicateLabel, (refl, (λ none. cc none), there))
]

buckets_or_fault : (buckets : List Bucket) (slots : List (List EmittedExemplar)) → length slots ≡ length buckets → BucketsValid buckets slots ⊎ SomeFault (λ k. BucketsFault k buckets slots)
buckets_or_fault buckets slots even = elim (at_most_or_more (2 ^ 64) (values_in buckets)) [
  | inl many ↦ inr (BucketOverflow, inl (refl, many))
  | inr few ↦ (elim (slots_or_fault slots) [
    | inr (k, fault) ↦ inr (k, inr fault)
    | inl valid ↦ inl (even, few, valid)
  ])
]

-- a point whose parts are its buckets
buckets_point_or_fault : (setting : Setting) (common : List Label) (point : Point) (buckets : List Bucket) (slots : List (List EmittedExemplar)) → (BucketsValid buckets slots → PartsValid setting common point) → ((k : EncodeError) → BucketsFault k buckets slots → PartsFault k setting common point) → (¬ (length slots ≡ length buckets) → SlotsDiffer point) → PartsValid setting common point ⊎ SomeFault (λ k. PointFault k setting common point)
buckets_point_or_fault setting common point buckets slots are_valid are_fault differ = elim (known (length slots == length buckets) (Decides-eqb (length slots) (length buckets))) [
  | inr uneven ↦ inr (ExemplarCountMismatch, inl (inr (refl, differ uneven)))
  | inl even ↦ (elim (buckets_or_fault buckets slots even) [
    | inl valid ↦ inl (are_valid valid)
    | inr (k, fault) ↦ inr (k, inr (are_fault k fault))
  ])
]

parts_or_fault : (setting : Setting) (common : List Label) (point : Point) → PartsValid setting common point ⊎ SomeFault (λ k. PointFault k setting common point)
parts_or_fault setting common (UnknownPoint numbers) = point_of_parts setting common (UnknownPoint numbers) (number_or_fault numbers)
parts_or_fault setting common (GaugePoint numbers) = point_of_parts setting common (GaugePoint numbers) (number_or_fault numbers)
parts_or_fault setting common (CounterPoint numbers exemplars created) =
    point_of_parts setting common (CounterPoint numbers exemplars created) (counter_or_fault setting common numbers exemplars created)
parts_or_fault setting common (StateSetPoint states) = point_of_parts setting common (StateSetPoint states) (states_or_fault setting common states)
parts_or_fault setting common (InfoPoint labels) = point_of_parts setting common (InfoPoint labels) (labels_or_fault setting.metric_type common labels)
parts_or_fault setting common (HistogramPoint buckets slots count sum created) = buckets_point_or_fault setting common (HistogramPoint buckets slots count sum created) buckets slots (λ valid. valid) (λ k fault. fault) (λ differ. differ)
parts_or_fault setting common (GaugeHistogramPoint buckets slots count sum) = buckets_point_or_fault setting common (GaugeHistogramPoint buckets slots count sum) buckets slots (λ valid. valid) (λ k fault. fault) (λ differ. differ)
parts_or_fault setting common (SummaryPoint quantiles sum count created) = inl tt

-- a point's samples are well formed if its parts are valid
abbrev pub Forms : Setting → List Label → Point → Type 0
Forms setting common point = type_of point ≡ setting.metric_type → PartsValid setting common point → AllByRecursion (IsSample setting.metric_type) (point_samples setting common point)

point_or_fault : (setting : Setting) (common : List Label) (point : Point) → Forms setting common point → PointValid setting common point ⊎ SomeFault (λ k. PointFault k setting common point)
point_or_fault setting common point forms = elim (known _ (type_decides (type_of point) setting.metric_type)) [
  | inr mismatch ↦ inr (KindMismatch, inl (inl (refl, mismatch)))
  | inl same ↦ (elim (parts_or_fault setting common point) [
    | inr fault ↦ inr fault
    | inl valid ↦ inl (record { type = same; parts = valid; formed = forms same valid })
  ])
]

-- members

-- a member's samples are well formed if its labels and the parts of its point are valid
abbrev pub MemberForms : Context → Member → Type 0
MemberForms context member =
    LabelsValid context.setting.metric_type [] (common_emitted context member) → Forms context.setting (common_written context member) member.point

member_or_fault : (context : Context) (member : Member) → MemberForms context member → MemberValid context member ⊎ SomeFault (λ k. MemberFault k context member)
member_or_fault context member forms = elim (labels_or_fault context.setting.metric_type [] (common_emitted context member)) [
  | inr (k, fault) ↦ inr (k, inl fault)
  | inl valid ↦ (elim (point_or_fault context.setting (common_written context member) member.point (forms valid)) [
    | inr (k, fault) ↦ inr (k, inr fault)
    | inl point ↦ inl (valid, point)
  ])
]

pub members_or_fault : (context : Context) (members : List Member) → AllByRecursion (MemberForms context) members → MembersValid context members ⊎ SomeFault (λ k. MembersFault k context members)
members_or_fault context [] forms = inl tt
members_or_fault context (member ∷ members) forms = elim (member_or_fault context member forms.0) [
  | inr (k, fault) ↦ inr (k, inl fault)
  | inl valid ↦ (elim (members_or_fault context members forms.1) [
    | inr (k, fault) ↦ inr (k, inr fault)
    | inl rest ↦ inl (valid, rest)
  ])
]
