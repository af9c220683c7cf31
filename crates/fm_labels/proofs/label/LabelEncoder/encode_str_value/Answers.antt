use Rattle.std.proofs.Common.{◌≡◌, Some, subst, sym}
use Rattle.fm_grammar.specs.Exposition.{Text}
use Rattle.fm_text.specs.inside.LabelTexts.{LabelsState}
use Rattle.fm_labels.specs.Labels.{NameFits}
use Rattle.fm_labels.proofs.label.LabelEncoder.encode_str_value.Goals as goal

pub invariant_of-self-in-Ok : goal.invariant_of-self-in-Ok
invariant_of-self-in-Ok c =
    subst (λ (l : LabelsState). (n : Text) → l.name ≡ Some n → NameFits c.self.inside.metric_type l.labels n) (sym c.in-Ok.ensures.set) c.self.invariant

pub invariant_of-self-in-Err : goal.invariant_of-self-in-Err
invariant_of-self-in-Err c =
    subst (λ (l : LabelsState). (n : Text) → l.name ≡ Some n → NameFits c.self.inside.metric_type l.labels n) (sym c.in-Err.ensures.kept) c.self.invariant
