use Rattle.std.proofs.Common.{take}
use Rattle.fm_grammar.specs.Spelling.{label_list_text}
use Rattle.fm_text.specs.inside.Grown.{Grows}
use Rattle.fm_text.specs.inside.LabelTexts.{labels_in}
use Rattle.fm_text.proofs.labels.append_labels_at.Given as goal

abbrev pub invariant-loop-i : goal.invariant-loop-i
invariant-loop-i g l = Grows (g.O.Output.stands_for l.fn.text) (g.O.Output.stands_for l.text) (label_list_text (labels_in l.labels.text.now (take l.i l.labels.spans.now)))
