-- What label encoders have gathered, what sources promise when they write to them, and what calls of these encoders promise. An encoder that
-- has refused something does not change. If nothing is refused, `Ok` means that all parts were emitted and are valid, and an error is `Memory`
-- or a declared one. A refusal is for want of memory, for a declared error, or for a fault in the parts.
use Rattle.std.specs.Prelude.{◌≡◌, List, ◌++◌, Option, Some, None, Result, Ok, Err, ◌⊎◌}
use Rattle.fm_grammar.specs.declared.MetricType.{MetricType}
use Rattle.fm_grammar.specs.Exposition.{Label}
use Rattle.fm_raw.specs.declared.encode_error.EncodeError.{EncodeError}
use Rattle.fm_raw.specs.declared.encode_error.EncodeError.TheVariants.{Memory}
use Rattle.fm_labels.specs.Labels.{EmittedLabel, PieceFault, LabelsFault, LabelsValid, all_written}
use Rattle.fm_labels.specs.Refusals.{OwnRefusal, OwnError, Takes}

-- a label encoder: the labels before, and the pieces of the current label
pub record GatheredPieces : Type 0 where
  pub metric_type : MetricType
  pub labels : List Label
  pub pieces : EmittedLabel
  pub refused : Option EncodeError

-- a label set encoder
pub record GatheredLabels : Type 0 where
  pub metric_type : MetricType
  pub labels : List Label
  pub refused : Option EncodeError

-- these pieces of a label are emitted to a label encoder
pub record EmitsPieces (pieces : EmittedLabel) (MayFault : Type 0) (old new : GatheredPieces) (result : Result (Unit {0}) EncodeError) : Type 0 where
  pub same_type : new.metric_type ≡ old.metric_type
  pub same_labels : new.labels ≡ old.labels
  pub kept : (k : EncodeError) → old.refused ≡ Some k → new ≡ old
  pub emitted : old.refused ≡ None → new.refused ≡ None → result ≡ Ok tt → new.pieces ≡ old.pieces ++ pieces
  pub own : (e : EncodeError) → new.refused ≡ None → result ≡ Err e → OwnError MayFault e
  pub refused : (k : EncodeError) → old.refused ≡ None → new.refused ≡ Some k → (k ≡ Memory) ⊎ PieceFault k old.metric_type old.labels (old.pieces ++ pieces)

-- these labels are emitted to a label set encoder
pub record EmitsLabels (labels : List EmittedLabel) (MayFault : Type 0) (old new : GatheredLabels) (result : Result (Unit {0}) EncodeError) : Type 0 where
  pub same_type : new.metric_type ≡ old.metric_type
  pub kept : (k : EncodeError) → old.refused ≡ Some k → new ≡ old
  pub valid : old.refused ≡ None → new.refused ≡ None → result ≡ Ok tt → LabelsValid old.metric_type old.labels labels
  pub emitted : old.refused ≡ None → new.refused ≡ None → result ≡ Ok tt → new.labels ≡ old.labels ++ all_written labels
  pub own : (e : EncodeError) → new.refused ≡ None → result ≡ Err e → OwnError MayFault e
  pub refused : (k : EncodeError) → old.refused ≡ None → new.refused ≡ Some k → OwnRefusal MayFault k ⊎ LabelsFault k old.metric_type old.labels labels

abbrev pub TakesPieces : EmittedLabel → Type 0 → GatheredPieces → GatheredPieces → Result (Unit {0}) EncodeError → Type 0
TakesPieces pieces MayFault old new result = Takes (EmitsPieces pieces MayFault old new result) new.refused result

abbrev pub TakesLabels : List EmittedLabel → Type 0 → GatheredLabels → GatheredLabels → Result (Unit {0}) EncodeError → Type 0
TakesLabels labels MayFault old new result = Takes (EmitsLabels labels MayFault old new result) new.refused result
