use Rattle.fm_text.specs.inside.LabelTexts.{label_in, IsSpan}
use Rattle.fm_text.proofs.GrownLemmas.{list_more}
use Rattle.fm_text.proofs.LabelTextLemmas.{all_at}
use Rattle.fm_text.proofs.labels.append_labels_at.Goals as goal

pub bytes-name-requires : goal.bytes-name-requires
bytes-name-requires g c = (all_at (IsSpan c.args.labels.text.now) c.args.labels.spans.now c.loop-i.i _ c.requires c.loop-i-test.true).name

pub loop-i-preserved : goal.loop-i-preserved
loop-i-preserved g c = list_more (label_in c.args.labels.text.now) c.args.labels.spans.now c.loop-i.i _ c.separator.result.now _ _ _ c.loop-i-test.true c.separator.ensures c.loop-i.invariant (rw (c.in_ok-append_separated.was, c.bytes-name.ensures, c.bytes-value.ensures) at c.append_separated.ensures)

pub bytes-value-requires : goal.bytes-value-requires
bytes-value-requires g c = (all_at (IsSpan c.args.labels.text.now) c.args.labels.spans.now c.loop-i.i _ c.requires c.loop-i-test.true).value
