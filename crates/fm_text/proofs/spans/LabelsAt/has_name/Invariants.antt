use Rattle.std.proofs.Common.{take, Contains}
use Rattle.fm_text.specs.inside.LabelTexts.{names_in}
use Rattle.fm_text.proofs.spans.LabelsAt.has_name.Given as goal

abbrev pub invariant-loop-span : goal.invariant-loop-span
invariant-loop-span l = ¬ (Contains (names_in l.self.text.now (take l.span-index l.self.spans.now)) l.name)
