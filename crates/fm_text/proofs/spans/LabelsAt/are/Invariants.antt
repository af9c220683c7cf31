use Rattle.std.proofs.Common.{◌≡◌, take}
use Rattle.fm_grammar.specs.LabelPairs.{labels_of}
use Rattle.fm_text.specs.inside.LabelTexts.{labels_in}
use Rattle.fm_text.proofs.spans.LabelsAt.are.Given as goal

abbrev pub invariant-loop-i : goal.invariant-loop-i
invariant-loop-i l = labels_in l.self.text.now (take l.i l.self.spans.now) ≡ labels_of (take l.i l.labels)
