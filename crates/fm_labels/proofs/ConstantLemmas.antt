-- Constant labels that were tested for a type.
use Rattle.std.proofs.Common.{◌≡◌, zero, suc, List, [], ◌∷◌, ◌++◌, true, false, inl, inr, refl, sym, ◌∙◌, subst, arith, lit<, true≢false}
use Rattle.fm_grammar.specs.declared.MetricType.{MetricType}
use Rattle.fm_grammar.specs.Exposition.{Label}
use Rattle.fm_grammar.specs.WellFormed.{AreLabels}
use Rattle.fm_raw.specs.declared.encode_error.EncodeError.TheVariants.{ReservedLabel}
use Rattle.fm_labels.specs.Labels.{IsReserved, LabelsValid, LabelsFault, emitted_again}
use Rattle.fm_labels.specs.inside.FreeLabels.{HasReserved}
use Rattle.fm_labels.specs.inside.Constants.{FamilyConstants, AreTested}
use Rattle.fm_labels.proofs.NameLemmas.{AreFree-unless}
use Rattle.fm_labels.proofs.FittingLemmas.{constants_fit, LabelsValid-fitting}

-- a label with the reserved name is a fault, whatever labels come before it
reserved_fault : (type : MetricType) (before ls : List Label) → HasReserved type ls → LabelsFault ReservedLabel type before (emitted_again ls)
reserved_fault type before [] (name, reserved, (i, within, is)) = absurd (omega arith)
reserved_fault type before (l ∷ ls) (name, reserved, (zero, within, is)) =
    inl (inr (l.name, (0, lit< tt, refl), subst (IsReserved type) (sym is) reserved))
reserved_fault type before (l ∷ ls) (name, reserved, (suc i, within, is)) =
    inr (reserved_fault type (before ++ l ∷ []) ls (name, reserved, (i, omega arith, is)))

module _ (type : MetricType) (constants : FamilyConstants) (tested : AreTested type constants) where
  pub tested_valid : AreLabels constants.labels → constants.has_reserved ≡ false → LabelsValid type [] (emitted_again constants.labels)
  tested_valid are none =
      LabelsValid-fitting type [] constants.labels (constants_fit type constants.labels are (AreFree-unless type constants.labels (λ has. true≢false (sym (tested.1 has) ∙ none))))

  pub tested_fault : constants.has_reserved ≡ true → LabelsFault ReservedLabel type [] (emitted_again constants.labels)
  tested_fault has = reserved_fault type [] constants.labels (tested.0 has)
