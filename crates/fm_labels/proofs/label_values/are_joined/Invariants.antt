use Rattle.std.proofs.Common.{◌≡◌, ◌++◌, take}
use Rattle.fm_labels.specs.LabelValues.{shown_texts, joined}
use Rattle.fm_labels.proofs.label_values.are_joined.Given as goal

abbrev pub invariant-loop-value : goal.invariant-loop-value
invariant-loop-value l = l.bytes ≡ joined (shown_texts (take l.value-index l.values)) ++ l.rest
