use Rattle.fm_grammar.specs.LabelPairs.{label_of}
use Rattle.fm_text.proofs.GrownLemmas.{list_more}
use Rattle.fm_text.proofs.labels.append_label_list.Goals as goal

pub loop-i-preserved : goal.loop-i-preserved
loop-i-preserved g c =
    let here = rw (c.in_ok-append_separated.was, c.as_bytes.ensures.value, c.as_bytes-in-loop-i.ensures.value) at c.append_separated.ensures in
    list_more label_of c.args.labels.now c.loop-i.i c.index-labels-i.result c.separator.result.now _ _ _ c.loop-i-test.true c.separator.ensures c.loop-i.invariant (rw (← c.index-labels-i.is) here)
