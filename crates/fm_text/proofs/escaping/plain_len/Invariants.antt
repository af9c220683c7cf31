use Rattle.std.proofs.Common.{◌≡◌, take}
use Rattle.fm_grammar.specs.Spelling.{escaped}
use Rattle.fm_text.proofs.escaping.plain_len.Given as goal

abbrev pub invariant-loop-i : goal.invariant-loop-i
invariant-loop-i l = escaped (take l.i l.raw) ≡ take l.i l.raw
