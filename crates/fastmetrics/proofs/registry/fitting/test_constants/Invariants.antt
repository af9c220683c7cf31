use Rattle.std.proofs.Common.{◌≡◌, None, take}
use Rattle.fm_grammar.specs.LabelPairs.{labels_of}
use Rattle.fastmetrics.specs.Roots.{constants_refusal}
use Rattle.fastmetrics.proofs.registry.fitting.test_constants.Given as goal

abbrev pub invariant-loop-label : goal.invariant-loop-label
invariant-loop-label l = constants_refusal (labels_of (take l.label-index l.labels)) l.names ≡ None
