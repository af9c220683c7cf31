use Rattle.std.specs.Prelude.{◌≡◌, ◌+◌, ◌≤◌, All, vec_len, vec_items, vec_capacity}
use Rattle.fm_tally.specs.Shares.{unused}
use Rattle.fm_tally.proofs.tally.Tally.new.Given as goal

abbrev pub invariant-loop-i : goal.invariant-loop-i
invariant-loop-i g l = (l.own.parts + l._i ≡ l.n + 1) × (l.own.amount ≡ 0) × (vec_len l.shares ≡ l._i) × All (λ s. s ≡ unused) (vec_items l.shares) × (l.n ≤ vec_capacity l.shares)
