use Rattle.std.proofs.Common.{length}
use Rattle.fm_grammar.specs.Spelling.{escaped}
use Rattle.fm_text.specs.inside.Grown.{IsLeftOf}
use Rattle.fm_text.proofs.escaping.append_escaped.Given as goal

abbrev pub invariant-loop-first : goal.invariant-loop-first
invariant-loop-first g l = IsLeftOf (escaped l.rest) (escaped l.raw) (g.O.Output.stands_for l.fn.text) (g.O.Output.stands_for l.text)

abbrev pub decreases-loop-first : goal.decreases-loop-first
decreases-loop-first g l = length l.rest
