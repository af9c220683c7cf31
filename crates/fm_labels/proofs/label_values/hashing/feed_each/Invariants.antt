use Rattle.std.proofs.Common.{◌≡◌, take, fold}
use Rattle.std.specs.List.{AllByRecursion, flat_map}
use Rattle.std.specs.Str.{IsUtf8}
use Rattle.std.specs.Hash as hash
use Rattle.fm_labels.specs.LabelValues.{shown_texts}
use Rattle.fm_labels.proofs.label_values.hashing.feed_each.Given as goal

abbrev pub invariant-loop-value : goal.invariant-loop-value
invariant-loop-value g l = record {
  fed : l.state ≡ fold g.H.Hasher.write l.initial.state (flat_map hash.str (shown_texts (take l.value-index l.values)));
  texts : AllByRecursion IsUtf8 (shown_texts (take l.value-index l.values));
}
