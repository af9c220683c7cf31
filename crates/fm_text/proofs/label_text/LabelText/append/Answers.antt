use Rattle.std.proofs.Common.{◌≡◌, ◌++◌, ◌<◌, true, IsTrue, None, ap, sym, ◌∙◌, length, rules}
use Rattle.fm_text.specs.inside.LabelTexts.{LabelsState, labels_in}
use Rattle.fm_text.proofs.LabelTextLemmas.{spans_grown}
use Rattle.fm_text.proofs.JoinedLemmas.{labels_joined, held_joined}
use Rattle.fm_text.proofs.label_text.LabelText.append.Goals as goal
use Rattle.fm_text.proofs.label_text.LabelText.append.Goals.{then-self, else-self}

pub push_after-requires-clause-spans : goal.push_after-requires-clause-spans
push_after-requires-clause-spans c =
    rw c.as_slice-4.ensures (spans_grown c.self.inside.text c.append_further_list.new.text _ c.self.inside.spans.items c.in_ok-by.ensures.grown c.self.invariant.parts.spans)

pub invariant_of-self-2 : goal.invariant_of-self-2
invariant_of-self-2 c =
    let inside = c.self.inside in
    let further = c.labels.inside in
    let may : IsTrue c.if-self.are_listed → ((inside.is_listed ≡ true) × (inside.name ≡ None) × (inside.value ≡ None)) × ((further.is_listed ≡ true) × (further.name ≡ None) × (further.value ≡ None)) = elim c.if-self.branch [
      | then-self w ↦ (λ t. (c.may_take_name-self-inside.ensures w.if-self.true, w.may_take_name-are_listed.ensures (sym w.are_listed-is ∙ t)))
      | else-self w ↦ (λ t. absurd cc)
    ] in
    let first = rw c.as_slice-2.ensures.value at c.is_empty-is_first.ensures in
    let some : 0 < length further.spans.items = search rules in
    let grown = rw c.as_slice-3.ensures at c.in_ok-by.ensures.grown in
    let labels = labels_joined inside.text c.append_further_list.new.text further.text _ c.in_ok-by.by inside.spans.items further.spans.items c.push_after.new.spans.items c.in_ok-by.ensures.grown c.self.invariant.parts.spans (rw c.as_slice-3.ensures at c.in_ok-by.ensures.begin.1) (rw (c.as_slice-4.ensures, c.deref.ensures.value) at c.in_ok-push_after.ensures.pushed) in
    held_joined inside.is_listed further.is_listed c.if-self.are_listed _ inside.text c.append_further_list.new.text further.text inside.spans.items further.spans.items c.push_after.new.spans.items inside.name inside.value further.name further.value may first some grown c.self.invariant c.labels.invariant (rw c.as_slice-4.ensures at c.push_after.ensures.spans) labels

pub returns-clause-appended : goal.returns-clause-appended
returns-clause-appended c =
    let inside = c.self.inside in
    let further = c.labels.inside in
    let labels = labels_joined inside.text c.append_further_list.new.text further.text _ c.in_ok-by.by inside.spans.items further.spans.items c.push_after.new.spans.items c.in_ok-by.ensures.grown c.self.invariant.parts.spans (rw c.as_slice-3.ensures at c.in_ok-by.ensures.begin.1) (rw (c.as_slice-4.ensures, c.deref.ensures.value) at c.in_ok-push_after.ensures.pushed) in
    let same = labels ∙ ap (λ (l : LabelsState). l.labels ++ labels_in further.text further.spans.items) c.self.view_is ∙ ap (λ (l : LabelsState). c.args.self.now.labels ++ l.labels) c.labels.view_is in
    λ i. record { labels = same i; name = None; value = None }
