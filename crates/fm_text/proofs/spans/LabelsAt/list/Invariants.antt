use Rattle.std.proofs.Common.{◌≡◌, take}
use Rattle.fm_text.specs.inside.LabelTexts.{labels_in}
use Rattle.fm_text.proofs.spans.LabelsAt.list.Given as goal

abbrev pub invariant-loop-span : goal.invariant-loop-span
invariant-loop-span l = l.list ≡ labels_in l.self.text.now (take l.span-index l.self.spans.now)
