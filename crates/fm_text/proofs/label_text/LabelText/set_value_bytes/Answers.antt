use Rattle.std.proofs.Common.{ap, ◌∙◌, Some}
use Rattle.fm_text.specs.inside.LabelTexts.{LabelsState}
use Rattle.fm_text.proofs.LabelTextLemmas.{held_valued, shown_valued}
use Rattle.fm_text.proofs.label_text.LabelText.set_value_bytes.Goals as goal

pub invariant_of-self-2 : goal.invariant_of-self-2
invariant_of-self-2 c =
    let inside = c.self.inside in
    let e = c.in_ok-part.ensures in
    let next = c.may_take_value-self-inside in
    held_valued inside.is_listed next.result inside.text _ _ inside.spans.items inside.name inside.value c.in_ok-part.part next.ensures e.grown e.part.0 e.part.1 c.self.invariant

pub returns-clause-set : goal.returns-clause-set
returns-clause-set c =
    let e = c.in_ok-part.ensures in
    shown_valued _ _ _ _ _ _ c.in_ok-part.part _ e.grown c.self.invariant.parts e.part.1 ∙ ap (λ (l : LabelsState). record l { value = Some c.args.value.now }) c.self.view_is
