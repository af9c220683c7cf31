use Rattle.std.proofs.Common.{◌≡◌, take}
use Rattle.fm_grammar.specs.LabelPairs.{labels_of}
use Rattle.fm_labels.proofs.collecting.constants.replace.Given as goal

abbrev pub invariant-loop-label : goal.invariant-loop-label
invariant-loop-label l = l.text.labels ≡ labels_of (take l.label-index l.labels)
