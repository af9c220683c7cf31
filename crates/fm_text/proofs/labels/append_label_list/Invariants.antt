use Rattle.std.proofs.Common.{take}
use Rattle.fm_grammar.specs.Spelling.{label_list_text}
use Rattle.fm_grammar.specs.LabelPairs.{labels_of}
use Rattle.fm_text.specs.inside.Grown.{Grows}
use Rattle.fm_text.proofs.labels.append_label_list.Given as goal

abbrev pub invariant-loop-i : goal.invariant-loop-i
invariant-loop-i g l = Grows (g.O.Output.stands_for l.fn.text) (g.O.Output.stands_for l.text) (label_list_text (labels_of (take l.i l.labels)))
