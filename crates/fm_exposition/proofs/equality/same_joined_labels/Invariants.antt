use Rattle.std.proofs.Common.{◌≡◌, drop}
use Rattle.std.specs.Cmp.Lexicographic.{pointwise}
use Rattle.fm_exposition.specs.Same.{same_label}
use Rattle.fm_exposition.specs.Samples.{sample_of}
use Rattle.fm_exposition.proofs.equality.same_joined_labels.Given as goal

-- what is left decides
abbrev pub invariant-loop-index : goal.invariant-loop-index
invariant-loop-index l =
    pointwise same_label (drop l.index (sample_of l.one).labels) (drop l.index (sample_of l.other).labels)
    ≡ pointwise same_label (sample_of l.one).labels (sample_of l.other).labels
