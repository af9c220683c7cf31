use Rattle.std.proofs.Common.{◌≡◌, Some, subst, sym}
use Rattle.fm_grammar.specs.Exposition.{Text}
use Rattle.fm_text.specs.inside.LabelTexts.{LabelsState}
use Rattle.fm_labels.specs.Labels.{NameFits}
use Rattle.fm_labels.proofs.label.LabelEncoder.write_label.Goals as goal

pub invariant_of-self-in-Err : goal.invariant_of-self-in-Err
invariant_of-self-in-Err c =
    subst (λ (l : LabelsState). (n : Text) → l.name ≡ Some n → NameFits c.self.inside.metric_type l.labels n) (sym c.in-Err.ensures.kept) c.self.invariant
