use Rattle.std.proofs.Common.{length}
use Rattle.fm_exposition.specs.inside.Writing.{AppendsAllBut}
use Rattle.fm_exposition.proofs.writing.write_text.Given as goal

-- all but the rest is written
abbrev pub invariant-loop-rest : goal.invariant-loop-rest
invariant-loop-rest g l = AppendsAllBut l.rest (g.W.Write.contents l.fn.writer) (g.W.Write.contents l.writer) l.text

abbrev pub decreases-loop-rest : goal.decreases-loop-rest
decreases-loop-rest g l = length l.rest
