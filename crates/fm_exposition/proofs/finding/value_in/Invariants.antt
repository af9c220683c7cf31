use Rattle.std.proofs.Common.{◌≡◌, drop, map}
use Rattle.fm_grammar.specs.LabelPairs.{shown_label}
use Rattle.fm_exposition.specs.Samples.{samples_of}
use Rattle.fm_exposition.specs.Finding.{named_in, named_samples, value_among}
use Rattle.fm_exposition.proofs.finding.value_in.Given as goal

-- what is left decides
abbrev pub invariant-loop-sample : goal.invariant-loop-sample
invariant-loop-sample l =
    value_among l.name (map shown_label l.labels) (map (named_in l.family.name) (samples_of (drop l.sample-index l.sample-items)))
    ≡ value_among l.name (map shown_label l.labels) (named_samples l.family)
