use Rattle.std.proofs.Common.{◌≡◌, ◌++◌, fold, length, ℕ, List}
use Rattle.std.specs.List.{flat_map}
use Rattle.std.specs.Hash as hash
use Rattle.fm_labels.specs.LabelValues.{values_in}
use Rattle.fm_labels.proofs.label_values.hashing.feed_parts.Given as goal

abbrev pub invariant-loop-value : goal.invariant-loop-value
invariant-loop-value g l = fold g.H.Hasher.write l.state (flat_map hash.str (values_in l.rest)) ≡ fold g.H.Hasher.write l.initial.state (flat_map hash.str (values_in l.bytes))

abbrev pub decreases-loop-value : goal.decreases-loop-value
decreases-loop-value g l = length l.rest
