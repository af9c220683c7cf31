use Rattle.std.proofs.Common.{◌≡◌, take, map}
use Rattle.fm_grammar.specs.LabelPairs.{shown_label}
use Rattle.fm_text.proofs.copies.copied_labels.Given as goal

abbrev pub invariant-loop-label : goal.invariant-loop-label
invariant-loop-label l = l.text.labels ≡ map shown_label (take l.label-index l.labels)
