use Rattle.fm_text.specs.inside.Plain.{IsPlainBetween}
use Rattle.fm_text.proofs.plain.plain_few.Given as goal

abbrev pub invariant-loop-byte : goal.invariant-loop-byte
invariant-loop-byte l = IsPlainBetween l.raw 0 l.byte-index
