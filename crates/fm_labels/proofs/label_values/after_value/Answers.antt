use Rattle.std.proofs.Common.{arith}
use Rattle.fm_labels.proofs.LabelValueLemmas.{begins, begins_not, same_bytes, other_bytes}
use Rattle.fm_labels.proofs.label_values.after_value.Goals as goal

pub returns-then-ne : goal.returns-then-ne
returns-then-ne c = begins_not c.args.bytes.now c.args.value.now (other_bytes _ _ c.if-ne.ensures)

pub returns : goal.returns
returns c = begins c.args.bytes.now c.args.value.now (omega arith) c.if-bytes-end-2.false (same_bytes _ _ c.if-ne.ensures)
