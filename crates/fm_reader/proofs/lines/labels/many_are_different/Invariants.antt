use Rattle.std.proofs.Common.{take}
use Rattle.fm_grammar.specs.Names.{AllDifferent}
use Rattle.fm_reader.proofs.NameSets.{Holds, names_of}
use Rattle.fm_reader.proofs.lines.labels.many_are_different.Given as goal

-- the names so far differ, and the set has them
abbrev pub invariant-loop-index : goal.invariant-loop-index
invariant-loop-index l = record {
  different : AllDifferent (take l.index (names_of l.labels));
  holds : Holds l.names (take l.index (names_of l.labels));
}
