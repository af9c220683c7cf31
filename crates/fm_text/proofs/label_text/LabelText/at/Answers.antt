use Rattle.std.proofs.Common.{drop, ap, ◌∙◌}
use Rattle.fm_text.specs.inside.LabelTexts.{LabelsState}
use Rattle.fm_text.proofs.LabelTextLemmas.{labels_from}
use Rattle.fm_text.proofs.label_text.LabelText.at.Goals as goal

pub returns-clause-labels : goal.returns-clause-labels
returns-clause-labels c =
    rw (c.as_slice.ensures, c.deref.ensures.value) (labels_from c.self.inside.text c.self.inside.spans.items c.args.from ∙ ap (λ (l : LabelsState). drop c.args.from l.labels) c.self.view_is)
