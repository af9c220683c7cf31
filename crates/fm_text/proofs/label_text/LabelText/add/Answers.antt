use Rattle.std.proofs.Common.{◌≡◌, ◌++◌, ◌∷◌, [], IsTrue, true, None, ap, sym, ◌∙◌, rules}
use Rattle.fm_grammar.specs.Spelling.{escaped}
use Rattle.fm_grammar.proofs.ResultLemmas.{on_err}
use Rattle.fm_text.specs.inside.LabelTexts.{LabelsState, labels_in}
use Rattle.fm_text.proofs.AddedLemmas.{held_grown_twice, labels_grown_twice, held_added, labels_added}
use Rattle.fm_text.proofs.label_text.LabelText.add.Goals as goal
use Rattle.fm_text.proofs.label_text.LabelText.add.Goals.{then-may_take_name, else-may_take_name}

pub invariant_of-self-in_err-push : goal.invariant_of-self-in_err-push
invariant_of-self-in_err-push c =
    let kept : c.push.new.self.items ≡ c.self.inside.spans.items = search rules in
    let e = c.in_ok-span.ensures.appended in
    rw kept (held_grown_twice c.self.inside.text e.named c.append_label.new.text _ _ c.self.inside.spans.items e.name_grown e.value_grown c.self.invariant.parts.spans)

pub returns-in_err-push-clause-kept : goal.returns-in_err-push-clause-kept
returns-in_err-push-clause-kept c =
    let kept : c.push.new.self.items ≡ c.self.inside.spans.items = search rules in
    let e = c.in_ok-span.ensures.appended in
    let same = ap (labels_in c.append_label.new.text) kept ∙ labels_grown_twice c.self.inside.text e.named c.append_label.new.text _ _ c.self.inside.spans.items e.name_grown e.value_grown c.self.invariant.parts.spans ∙ ap (λ (l : LabelsState). l.labels) c.self.view_is in
    let idle = c.requires.idle in
    on_err c.from_residual-in_err-push.result _ (λ i. record { labels = same i; name = sym idle.0 i; value = sym idle.1 i })

pub invariant_of-self-2 : goal.invariant_of-self-2
invariant_of-self-2 c =
    let inside = c.self.inside in
    let e = c.in_ok-span.ensures.appended in
    let span = c.in_ok-span.span in
    let may : IsTrue c.if-may_take_name.is_listed → (inside.is_listed ≡ true) × (inside.name ≡ None) × (inside.value ≡ None) × (escaped c.args.value.now ≡ c.args.value.now) = elim c.if-may_take_name.branch [
      | then-may_take_name w ↦ (λ t. (let free = c.may_take_name.ensures w.if-may_take_name.true in (free.0, free.1, free.2, w.is_plain-is_listed.ensures (sym w.is_listed-is ∙ t))))
      | else-may_take_name w ↦ (λ t. absurd cc)
    ] in
    let pushed : c.push.new.self.items ≡ inside.spans.items ++ span ∷ [] = search rules in
    rw pushed (held_added inside.is_listed c.if-may_take_name.is_listed inside.text e.named c.append_label.new.text c.args.name.now c.args.value.now inside.spans.items inside.name inside.value span.name span.value c.is_empty-is_first.result may (rw c.as_slice.ensures.value at c.is_empty-is_first.ensures) e.name_grown e.name_part.0 e.name_part.1 e.value_grown e.value_part.0 e.value_part.1 c.self.invariant)

pub returns-clause-added : goal.returns-clause-added
returns-clause-added c =
    let inside = c.self.inside in
    let e = c.in_ok-span.ensures.appended in
    let span = c.in_ok-span.span in
    let pushed : c.push.new.self.items ≡ inside.spans.items ++ span ∷ [] = search rules in
    let labels = labels_added inside.text e.named c.append_label.new.text _ c.args.name.now c.args.value.now inside.spans.items span.name span.value e.name_grown e.name_part.0 e.name_part.1 e.value_grown e.value_part.1 c.self.invariant.parts.spans in
    let same = ap (labels_in c.append_label.new.text) pushed ∙ labels ∙ ap (λ (l : LabelsState). l.labels ++ record { name = c.args.name.now; value = c.args.value.now } ∷ []) c.self.view_is in
    let idle = c.requires.idle in
    λ i. record { labels = same i; name = sym idle.0 i; value = sym idle.1 i }
