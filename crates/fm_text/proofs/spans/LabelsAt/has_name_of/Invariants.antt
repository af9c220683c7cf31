use Rattle.std.proofs.Common.{take, Contains}
use Rattle.std.specs.List.{Any}
use Rattle.fm_text.specs.inside.LabelTexts.{names_in}
use Rattle.fm_text.proofs.spans.LabelsAt.has_name_of.Given as goal

abbrev pub invariant-loop-span : goal.invariant-loop-span
invariant-loop-span l = ¬ (Any (Contains (names_in l.self.text.now l.self.spans.now)) (names_in l.others.text.now (take l.span-index l.others.spans.now)))
