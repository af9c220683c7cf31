use Rattle.std.proofs.Common.{take}
use Rattle.fm_reader.proofs.NameSets.{IsFresh, names_of}
use Rattle.fm_reader.proofs.lines.labels.is_new.Given as goal

-- the names so far are others
abbrev pub invariant-loop-index : goal.invariant-loop-index
invariant-loop-index l = IsFresh l.name (take l.index (names_of l.labels))
