use Rattle.std.proofs.Common.{◌≡◌, take}
use Rattle.std.specs.List.{AllByRecursion}
use Rattle.std.specs.Str.{IsUtf8}
use Rattle.fm_labels.specs.LabelValues.{shown_texts, joined}
use Rattle.fm_labels.proofs.label_values.joined_values.Given as goal

abbrev pub invariant-loop-value : goal.invariant-loop-value
invariant-loop-value l = record {
  joined : l.bytes.items ≡ joined (shown_texts (take l.value-index l.values));
  texts : AllByRecursion IsUtf8 (shown_texts (take l.value-index l.values));
}
