use Rattle.std.proofs.Common.{◌≡◌, ◌++◌, ◌∷◌, [], length, arith, refl, sym, ap, ◌∙◌, subst, append_assoc, take}
use Rattle.fm_labels.specs.LabelValues.{ended, joined, shown_texts}
use Rattle.fm_labels.specs.inside.JoinedValues.{IsBlock}
use Rattle.fm_labels.proofs.LabelValueLemmas.{joined-more, shown_more, shown_all}
use Rattle.fm_labels.proofs.LabelHashLemmas.{long_at}
use Rattle.fm_labels.proofs.label_values.hashing.fill.Goals as goal

pub loop-value-init : goal.loop-value-init
loop-value-init c = record { used = refl; block = c.requires }

pub put_value-requires : goal.put_value-requires
put_value-requires c = let fits = c.loop-value.invariant.block.fits in omega (arith, c.loop-value.invariant.used)

pub returns-in-None : goal.returns-in-None
returns-in-None c =
    let long = long_at c.args.values.now c.loop-value.value-index (record { ref_ptr = (0, 0); now = [] }) (omega arith) in
    let same = ap length c.as_bytes.ensures.value in
    record { filled = tt; full = omega (arith, c.loop-value.invariant.used, c.in-None.ensures.full) }

pub loop-value-preserved : goal.loop-value-preserved
loop-value-preserved c =
    let values = c.args.values.now in let i = c.loop-value.value-index in
    let before = joined (shown_texts (take i values)) in
    let put = c.in-Some.ensures.put before (sym c.loop-value.invariant.used) c.loop-value.invariant.block in
    let more = ap joined (shown_more values i (record { ref_ptr = (0, 0); now = [] }) (omega arith)) ∙ joined-more (shown_texts (take i values)) _ ∙ append_assoc before _ (255 ∷ []) in
    let same = ap (λ v. before ++ ended v) c.as_bytes.ensures.value ∙ sym more in
    record { used = put.0 ∙ ap length same; block = subst (λ t. IsBlock t c.put_value.new.block) same put.1 }

pub returns-clause-filled : goal.returns-clause-filled
returns-clause-filled c =
    let all = ap joined (shown_all c.args.values.now c.loop-value.value-index (omega arith)) in
    (c.loop-value.invariant.used ∙ ap length all, subst (λ t. IsBlock t c.loop-value.block) all c.loop-value.invariant.block)
