-- For label sets of a user's own: labels that are emitted one after the other, each of which declares no error of its own.
use Rattle.std.proofs.Common.{◌≡◌, ◌⊎◌, inl, inr, List, [], ◌∷◌, Result, Ok}
use Rattle.fm_raw.specs.declared.encode_error.EncodeError.{EncodeError}
use Rattle.fm_labels.specs.Labels.{EmittedLabel}
use Rattle.fm_labels.specs.LabelEncoders.{GatheredLabels}
use Rattle.fm_labels.specs.LabelEncoders.{EmitsLabels}
use Rattle.fm_labels.proofs.LabelsLemmas.{EmitsLabels-then, EmitsLabels-weaker}

-- the last label, a pair of a name and a value
pub last_label : {x : EmittedLabel} (old new : GatheredLabels) (r : Result (Unit {0}) EncodeError) → EmitsLabels (x ∷ []) (⊥ ⊎ ⊥) old new r → EmitsLabels (x ∷ []) ⊥ old new r
last_label old new r a = EmitsLabels-weaker old new r (λ h. elim h [ inl x ↦ x | inr x ↦ x ]) a

-- a label before others
pub next_label : {x : EmittedLabel} {ys : List EmittedLabel} (old mid new : GatheredLabels) (first r : Result (Unit {0}) EncodeError) → EmitsLabels (x ∷ []) (⊥ ⊎ ⊥) old mid first → first ≡ Ok tt → EmitsLabels ys ⊥ mid new r → EmitsLabels (x ∷ ys) ⊥ old new r
next_label old mid new first r a ok b = EmitsLabels-then old mid new first r (last_label old mid first a) ok b
