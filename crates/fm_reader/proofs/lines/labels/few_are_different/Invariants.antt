use Rattle.std.proofs.Common.{take}
use Rattle.fm_grammar.specs.Names.{AllDifferent}
use Rattle.fm_reader.proofs.NameSets.{names_of}
use Rattle.fm_reader.proofs.lines.labels.few_are_different.Given as goal

-- the names so far differ
abbrev pub invariant-loop-index : goal.invariant-loop-index
invariant-loop-index l = AllDifferent (take l.index (names_of l.labels))
