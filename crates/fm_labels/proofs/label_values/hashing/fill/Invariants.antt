use Rattle.std.proofs.Common.{◌≡◌, length, take}
use Rattle.fm_labels.specs.LabelValues.{shown_texts, joined}
use Rattle.fm_labels.specs.inside.JoinedValues.{IsBlock}
use Rattle.fm_labels.proofs.label_values.hashing.fill.Given as goal

abbrev pub invariant-loop-value : goal.invariant-loop-value
invariant-loop-value l = record {
  used : l.used ≡ length (joined (shown_texts (take l.value-index l.values)));
  block : IsBlock (joined (shown_texts (take l.value-index l.values))) l.block;
}
