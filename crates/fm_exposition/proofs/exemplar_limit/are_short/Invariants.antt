use Rattle.std.proofs.Common.{◌≡◌, ◌+◌, take}
use Rattle.fm_grammar.specs.WellFormed.{label_code_points}
use Rattle.fm_grammar.specs.LabelPairs.{labels_of}
use Rattle.fm_exposition.proofs.exemplar_limit.are_short.Given as goal

abbrev pub invariant-loop-name : goal.invariant-loop-name
invariant-loop-name l = l.left + label_code_points (labels_of (take l.name-index l.labels)) ≡ 128
