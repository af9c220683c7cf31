use Rattle.std.proofs.Common.{◌≡◌, ◌++◌, arith, refl, sym, true≢false, [], subst}
use Rattle.fm_grammar.specs.Exposition.{Text}
use Rattle.fm_labels.specs.LabelValues.{ended}
use Rattle.fm_labels.proofs.LabelValueLemmas.{differs_at, same_at, same_all, nothing_left}
use Rattle.fm_labels.proofs.label_values.are_joined.Goals as goal

pub loop-value-init : goal.loop-value-init
loop-value-init c = refl

pub returns-in-None : goal.returns-in-None
returns-in-None c =
    let next = subst (λ (v : Text). (rest : Text) → c.loop-value.rest.now ≡ ended v ++ rest → ⊥) c.as_bytes.ensures.value c.in-None.ensures in
    (λ is. absurd (true≢false (sym is)), λ same. absurd (differs_at c.args.values.now c.loop-value.value-index (record { ref_ptr = (0, 0); now = [] }) _ _ (omega arith) c.loop-value.invariant next same))

pub loop-value-preserved : goal.loop-value-preserved
loop-value-preserved c = same_at c.args.values.now c.loop-value.value-index (record { ref_ptr = (0, 0); now = [] }) _ _ _ (omega arith) c.loop-value.invariant (subst (λ (v : Text). c.loop-value.rest.now ≡ ended v ++ c.in-Some.after.now) c.as_bytes.ensures.value c.in-Some.ensures)

pub returns : goal.returns
returns c =
    let whole = same_all c.args.values.now c.loop-value.value-index _ _ (omega arith) c.loop-value.invariant in
    nothing_left _ _ _ _ c.is_empty.ensures whole
