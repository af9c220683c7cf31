use Rattle.std.proofs.Common.{◌≡◌, take, drop}
use Rattle.fm_labels.specs.LabelValues.{values_after, values_in}
use Rattle.fm_labels.proofs.label_values.split_value.Given as goal

abbrev pub invariant-loop-i : goal.invariant-loop-i
invariant-loop-i l = values_after (take l.i l.bytes) (drop l.i l.bytes) ≡ values_in l.bytes
