use Rattle.std.proofs.Common.{◌≡◌, take}
use Rattle.fm_grammar.specs.LabelPairs.{labels_of}
use Rattle.fm_registry_rules.proofs.constant_labels.cloned_labels.Given as goal

abbrev pub invariant-loop-label : goal.invariant-loop-label
invariant-loop-label l = labels_of l.copies.items ≡ labels_of (take l.label-index l.label-items)
