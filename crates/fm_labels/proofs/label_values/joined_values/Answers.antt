use Rattle.std.proofs.Common.{arith, ℕ, ◌≡◌, subst, sym, ap, ◌++◌, ◌∷◌, []}
use Rattle.std.specs.List.{AllByRecursion}
use Rattle.std.specs.Str.{IsUtf8}
use Rattle.fm_labels.specs.LabelValues.{joined}
use Rattle.fm_labels.proofs.LabelValueLemmas.{joined-more, texts_more, shown_more, shown_all}
use Rattle.fm_labels.proofs.label_values.joined_values.Goals as goal

pub loop-value-init : goal.loop-value-init
loop-value-init c = record { joined = c.in_ok-bytes.ensures.items; texts = tt }

pub loop-value-preserved : goal.loop-value-preserved
loop-value-preserved c =
    let values = c.args.values.now in let i = c.loop-value.value-index in
    let more = shown_more values i (record { ref_ptr = (0, 0); now = [] }) (omega arith) in
    let value = c.as_bytes.result.now in
    record {
      joined = rw (more, joined-more) (let a = c.in_ok-extend_from_slice.ensures.items in let b = c.in_ok-push.ensures.items in let d = c.loop-value.invariant.joined in let e = c.as_bytes.ensures.value in cc);
      texts = rw more (texts_more IsUtf8 _ _ c.loop-value.invariant.texts (subst IsUtf8 c.as_bytes.ensures.value c.as_bytes.ensures.utf8));
    }

pub returns-clause-joined : goal.returns-clause-joined
returns-clause-joined c = let all = shown_all c.args.values.now c.loop-value.value-index (omega arith) in rw (← all) c.loop-value.invariant.joined

pub returns-clause-texts : goal.returns-clause-texts
returns-clause-texts c = let all = shown_all c.args.values.now c.loop-value.value-index (omega arith) in rw (← all) c.loop-value.invariant.texts
