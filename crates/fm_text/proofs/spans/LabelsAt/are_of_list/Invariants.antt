use Rattle.std.proofs.Common.{◌≡◌, take}
use Rattle.fm_text.specs.inside.LabelTexts.{labels_in}
use Rattle.fm_text.proofs.spans.LabelsAt.are_of_list.Given as goal

abbrev pub invariant-loop-i : goal.invariant-loop-i
invariant-loop-i l = labels_in l.self.text.now (take l.i l.self.spans.now) ≡ take l.i l.list
