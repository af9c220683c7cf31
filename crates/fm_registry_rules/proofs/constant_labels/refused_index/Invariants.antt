use Rattle.std.proofs.Common.{◌≡◌, [], take, None}
use Rattle.fm_grammar.specs.LabelPairs.{labels_of}
use Rattle.fm_registry_rules.specs.Answer.{labels_refusal_after}
use Rattle.fm_registry_rules.proofs.constant_labels.refused_index.Given as goal

abbrev pub invariant-loop-index : goal.invariant-loop-index
invariant-loop-index l = labels_refusal_after [] (labels_of (take l.index l.fn.labels)) ≡ None
