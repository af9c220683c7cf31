use Rattle.std.proofs.Common.{◌≡◌, take, map}
use Rattle.fm_grammar.specs.LabelPairs.{labels_of, shown_label}
use Rattle.fm_text.proofs.copies.owned_labels.Given as goal

abbrev pub invariant-loop-label : goal.invariant-loop-label
invariant-loop-label l = labels_of l.owned.items ≡ map shown_label (take l.label-index l.labels)
