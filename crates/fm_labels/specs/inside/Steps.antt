-- What the label encoders' own steps do.
use Rattle.std.specs.Prelude.{◌≡◌, [], ◌++◌, Option, Some, None, Result, Ok, Err, ◌⊎◌}
use Rattle.std.specs.Option.{option_to_list, option_map}
use Rattle.fm_grammar.specs.Exposition.{Text}
use Rattle.fm_raw.specs.declared.encode_error.EncodeError.{EncodeError}
use Rattle.fm_raw.specs.declared.encode_error.EncodeError.TheVariants.{Memory, MalformedLabel}
use Rattle.fm_labels.specs.Labels.{EmittedLabel, LabelValid, IsMalformed, written, NamePiece, ValuePiece}
use Rattle.fm_labels.specs.LabelEncoders.{GatheredPieces}
use Rattle.fm_labels.specs.Refusals.{own_refusal}

-- The end of a label, after its source returned `visited`: a whole label is written, an own error is
-- refused, and so is a malformed label.
pub record EndsLabel (visited : Result (Unit {0}) EncodeError) (old new : GatheredPieces) : Type 0 where
  pub same_type : new.metric_type ≡ old.metric_type
  pub kept : (k : EncodeError) → old.refused ≡ Some k → new ≡ old
  pub visited_ok : old.refused ≡ None → new.refused ≡ None → visited ≡ Ok tt
  pub pieces : old.refused ≡ None → new.refused ≡ None → new.pieces ≡ []
  pub valid : old.refused ≡ None → new.refused ≡ None → LabelValid old.metric_type old.labels old.pieces
  pub labels : old.refused ≡ None → new.refused ≡ None → new.labels ≡ old.labels ++ written old.pieces
  pub own : (e : EncodeError) → old.refused ≡ None → visited ≡ Err e → new.refused ≡ Some (own_refusal e)
  pub refused : (k : EncodeError) → old.refused ≡ None → visited ≡ Ok tt → new.refused ≡ Some k → (k ≡ Memory) ⊎ ((k ≡ MalformedLabel) × IsMalformed old.pieces)

-- the pieces of the current label, which has this name and this value
abbrev pub pieces_of : Option Text → Option Text → EmittedLabel
pieces_of name text = option_to_list (option_map NamePiece name) ++ option_to_list (option_map ValuePiece text)
