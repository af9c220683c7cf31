use Rattle.std.specs.Prelude.{◌≡◌, ℕ, ◌+◌, ◌≤◌, All, length}
use Rattle.fm_tally.specs.Shares.{total_of}
use Rattle.fm_tally.proofs.tally.gather.Given as goal

abbrev pub invariant-loop-share : goal.invariant-loop-share
invariant-loop-share g l =
    (l.own.parts ≡ l.fn.own.parts + length l.yielded)
    × (l.own.amount ≡ l.fn.own.amount + total_of l.yielded)
    × All (λ s. s.seen ≤ l.most) l.yielded
    × ((bound : ℕ) → All (λ s. s.seen ≤ bound) l.yielded → l.most ≤ bound)
