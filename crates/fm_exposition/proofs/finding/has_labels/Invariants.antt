use Rattle.std.proofs.Common.{◌≡◌, drop, map}
use Rattle.std.specs.Cmp.Lexicographic.{pointwise}
use Rattle.fm_grammar.specs.LabelPairs.{shown_label}
use Rattle.fm_exposition.specs.Same.{same_label}
use Rattle.fm_exposition.specs.Samples.{sample_of}
use Rattle.fm_exposition.proofs.finding.has_labels.Given as goal

-- what is left decides
abbrev pub invariant-loop-index : goal.invariant-loop-index
invariant-loop-index l =
    pointwise same_label (drop l.index (sample_of l.sample).labels) (drop l.index (map shown_label l.labels))
    ≡ pointwise same_label (sample_of l.sample).labels (map shown_label l.labels)
