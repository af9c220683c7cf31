use Rattle.std.proofs.Common.{◌≡◌, take, map}
use Rattle.fm_grammar.specs.LabelPairs.{shown_label}
use Rattle.fm_text.specs.inside.LabelTexts.{labels_in}
use Rattle.fm_text.proofs.spans.LabelsAt.pairs.Given as goal

abbrev pub invariant-loop-span : goal.invariant-loop-span
invariant-loop-span l = map shown_label l.pairs.items ≡ labels_in l.self.text.now (take l.span-index l.self.spans.now)
