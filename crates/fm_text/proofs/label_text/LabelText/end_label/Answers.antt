use Rattle.std.proofs.Common.{List, subst, sym}
use Rattle.fm_text.specs.declared.spans.LabelSpan.{LabelSpan}
use Rattle.fm_text.specs.inside.LabelTexts.{AreWithin}
use Rattle.fm_text.proofs.LabelTextLemmas.{held_ended, part_ordered}
use Rattle.fm_text.proofs.label_text.LabelText.end_label.Goals as goal

pub invariant_of-self-2 : goal.invariant_of-self-2
invariant_of-self-2 c =
    let inside = c.self.inside in
    let next = c.may_end-self-inside in
    subst (λ (ps : List LabelSpan). AreWithin next.result inside.text ps _ _) (sym (rw c.in_ok-push_span.was at c.push_span.ensures.pushed)) (held_ended inside.is_listed next.result inside.text inside.spans.items inside.name inside.value next.ensures c.self.invariant)

pub push_span-requires : goal.push_span-requires
push_span-requires c = part_ordered c.self.inside.text _ c.self.invariant.parts.value
