-- What the encoders' own steps do.
use Rattle.std.specs.Prelude.{◌≡◌, ◌≤◌, List, [], ◌∷◌, ◌++◌, length, Option, Some, None, Result, Ok, Err, ◌⊎◌, Contains, IfSome, Bool, true, false}
use Rattle.std.specs.List.{AllByRecursion}
use Rattle.fm_grammar.specs.declared.MetricType.{MetricType}
use Rattle.fm_grammar.specs.declared.SampleKind.{SampleKind}
use Rattle.fm_grammar.specs.Exposition.{Value, Whole, Fixed, Millis, Exemplar, Sample, Text}
use Rattle.fm_grammar.specs.WellFormed.{ValueFits, ValueSuits, kinds_of, ExemplarAllowed, IsExemplar, IsSample}
use Rattle.fm_raw.specs.declared.encode_error.EncodeError.{EncodeError}
use Rattle.fm_raw.specs.declared.encode_error.EncodeError.TheVariants.{Memory, DuplicateLabel, MalformedLabel, ValueTwice, MissingValue, KindMismatch}
use Rattle.fm_writer.specs.Output.{appended}
use Rattle.fm_labels.specs.Labels.{EmittedLabel, label_names, LabelsFault, LabelsValid, LabelValid, IsMalformed, written, all_written, NamePiece, ValuePiece}
use Rattle.fm_labels.specs.LabelEncoders.{GatheredPieces}
use Rattle.fm_encoder.specs.Gathered.{GatheredPoints}
use Rattle.fm_labels.specs.Refusals.{own_refusal, OwnRefusal}
use Rattle.fm_encoder.specs.Emits.{SameContext}
use Rattle.std.specs.Option.{option_to_list, option_map}

-- why a value is refused whose source emits these numbers
abbrev pub NumberRefusal : List Value → Type 0 → EncodeError → Type 0
NumberRefusal numbers MayFault k =
    OwnRefusal MayFault k ⊎ (((k ≡ ValueTwice) × (2 ≤ length numbers)) ⊎ ((k ≡ MissingValue) × (numbers ≡ [])))

-- a value that a metric may emit: a whole number or millionths within their range
abbrev pub IsNumber : Value → Type 0
IsNumber (Whole z) = ValueFits (Whole z)
IsNumber (Fixed z) = ValueFits (Fixed z)
IsNumber (Millis t) = ⊥

-- the parts of a sample that its family's type rules
pub record FitsType (type : MetricType) (k : SampleKind) (v : Value) (e : Option Exemplar) : Type 0 where
  pub kind : Contains (kinds_of type) k
  pub suits : ValueSuits k v
  pub value : ValueFits v
  pub allowed : ExemplarAllowed k e
  pub exemplar : IfSome e IsExemplar

-- the tests of a point's type, and of whether its common labels were refused
pub record BeginsPoint (type : MetricType) (old new : GatheredPoints) : Type 0 where
  pub same : SameContext old new
  pub output : new.output ≡ old.output
  pub kept : (k : EncodeError) → old.refused ≡ Some k → new ≡ old
  pub same_type : new.refused ≡ None → type ≡ old.setting.metric_type
  pub no_deferred : new.refused ≡ None → old.deferred ≡ None
  pub refused : (k : EncodeError) → old.refused ≡ None → new.refused ≡ Some k → ((k ≡ KindMismatch) × (¬ (type ≡ old.setting.metric_type))) ⊎ (old.deferred ≡ Some k)

-- one more sample, or want of memory
pub record PushesSample (sample : Sample) (old new : GatheredPoints) : Type 0 where
  pub same : SameContext old new
  pub formed : new.refused ≡ None → IsSample old.setting.metric_type sample
  pub output : new.refused ≡ None → new.output ≡ appended old.setting.name old.output (sample ∷ [])
  pub refused : (k : EncodeError) → new.refused ≡ Some k → k ≡ Memory

-- several more samples, or want of memory
pub record PushesSamples (pushed : List Sample) (old new : GatheredPoints) : Type 0 where
  pub same : SameContext old new
  pub formed : new.refused ≡ None → AllByRecursion (IsSample old.setting.metric_type) pushed
  pub output : new.refused ≡ None → new.output ≡ appended old.setting.name old.output pushed
  pub refused : (k : EncodeError) → new.refused ≡ Some k → k ≡ Memory

-- The test of a state set's labels: they may be written if there are no states, or no common label has the family's name.
pub record TestsStates (is_empty : Bool) (old new : GatheredPoints) : Type 0 where
  pub same : SameContext old new
  pub output : new.output ≡ old.output
  pub passed : new.refused ≡ None → (is_empty ≡ true) ⊎ (¬ (Contains (label_names old.common) old.setting.name))
  pub refused : (k : EncodeError) → new.refused ≡ Some k → (k ≡ DuplicateLabel) × (is_empty ≡ false) × Contains (label_names old.common) old.setting.name

-- The labels of the next points are read, unless something was refused before: they are valid and written out, or their refusal is kept
-- for the next point.
pub record BeginsMember (labels : List EmittedLabel) (MayFault : Type 0) (old new : GatheredPoints) : Type 0 where
  pub setting : new.setting ≡ old.setting
  pub output : new.output ≡ old.output
  pub refused : new.refused ≡ old.refused
  pub kept : (k : EncodeError) → old.refused ≡ Some k → new ≡ old
  pub valid : old.refused ≡ None → new.deferred ≡ None → LabelsValid old.setting.metric_type [] labels
  pub common : old.refused ≡ None → new.deferred ≡ None → new.common ≡ all_written labels
  pub deferred : (k : EncodeError) → old.refused ≡ None → new.deferred ≡ Some k → OwnRefusal MayFault k ⊎ LabelsFault k old.setting.metric_type [] labels

-- The end of a member, after the point returned `visited`: an own error is refused.
pub record EndsPoints (visited : Result (Unit {0}) EncodeError) (old new : GatheredPoints) : Type 0 where
  pub same : SameContext old new
  pub output : new.output ≡ old.output
  pub kept : (k : EncodeError) → old.refused ≡ Some k → new ≡ old
  pub visited_ok : old.refused ≡ None → new.refused ≡ None → visited ≡ Ok tt
  pub own : (e : EncodeError) → old.refused ≡ None → visited ≡ Err e → new.refused ≡ Some (own_refusal e)
  pub ok : old.refused ≡ None → visited ≡ Ok tt → new.refused ≡ None
