use Rattle.std.proofs.Common.{◌-◌, ◌≤◌, length}
use Rattle.fm_text.specs.inside.Plain.{IsPlainBetween}
use Rattle.fm_text.proofs.plain.plain_long.Given as goal

abbrev pub invariant-loop-at : goal.invariant-loop-at
invariant-loop-at l = (l.at ≤ length l.raw) × IsPlainBetween l.raw 0 l.at

abbrev pub decreases-loop-at : goal.decreases-loop-at
decreases-loop-at l = length l.raw - l.at
