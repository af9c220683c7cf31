use Rattle.std.proofs.Common.{◌≡◌, take}
use Rattle.fm_grammar.specs.LabelPairs.{labels_of}
use Rattle.fm_reader.proofs.lines.exemplar.owned_pairs.Given as goal

abbrev pub invariant-loop-index : goal.invariant-loop-index
invariant-loop-index l = labels_of l.pairs.items ≡ take l.index l.list
