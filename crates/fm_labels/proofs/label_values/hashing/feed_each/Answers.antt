use Rattle.std.proofs.Common.{[], arith, refl, ap, ◌∙◌, subst, fold, take, get_or}
use Rattle.std.specs.List.{flat_map}
use Rattle.std.specs.Str.{IsUtf8}
use Rattle.std.specs.Hash as hash
use Rattle.fm_labels.specs.LabelValues.{shown_texts}
use Rattle.fm_labels.proofs.LabelValueLemmas.{shown_more, shown_all, texts_more}
use Rattle.fm_labels.proofs.LabelHashLemmas.{fed_more}
use Rattle.fm_labels.proofs.label_values.hashing.feed_each.Goals as goal

pub loop-value-init : goal.loop-value-init
loop-value-init g c = record { fed = refl; texts = tt }

pub loop-value-preserved : goal.loop-value-preserved
loop-value-preserved g c =
    let values = c.args.values.now in let i = c.loop-value.value-index in
    let more = shown_more values i (record { ref_ptr = (0, 0); now = [] }) (omega arith) in
    record {
      fed = rw more (fed_more g.H.Hasher.write c.args.state.now c.loop-value.state c.feed_value.new.state (shown_texts (take i values)) (get_or values i (record { ref_ptr = (0, 0); now = [] })).now c.loop-value.invariant.fed (c.feed_value.ensures ∙ ap (λ v. fold g.H.Hasher.write c.loop-value.state (hash.str v)) c.as_bytes.ensures.value));
      texts = rw more (texts_more IsUtf8 _ _ c.loop-value.invariant.texts (subst IsUtf8 c.as_bytes.ensures.value c.as_bytes.ensures.utf8));
    }

pub returns-clause-fed : goal.returns-clause-fed
returns-clause-fed g c = let all = shown_all c.args.values.now c.loop-value.value-index (omega arith) in rw (← all) c.loop-value.invariant.fed

pub returns-clause-texts : goal.returns-clause-texts
returns-clause-texts g c = let all = shown_all c.args.values.now c.loop-value.value-index (omega arith) in rw (← all) c.loop-value.invariant.texts
