use Rattle.std.proofs.Common.{sym, ◌∙◌, arith}
use Rattle.fm_labels.proofs.LabelValueLemmas.{skips, ends, first_value, none_left}
use Rattle.fm_labels.proofs.label_values.split_value.Goals as goal

pub returns-then-byte : goal.returns-then-byte
returns-then-byte c = first_value c.args.bytes.now c.loop-i.i (omega arith) c.if-byte.true c.loop-i.invariant

pub loop-i-preserved : goal.loop-i-preserved
loop-i-preserved c = sym (skips c.args.bytes.now c.loop-i.i (omega arith) c.if-byte.false) ∙ c.loop-i.invariant

pub returns : goal.returns
returns c = none_left c.args.bytes.now c.loop-i.i (omega arith) c.loop-i.invariant
