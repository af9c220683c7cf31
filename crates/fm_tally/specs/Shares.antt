-- The contents of a tally's shares.
use Rattle.std.specs.Prelude.{ℕ, List, sum_by}

-- the contents of one worker's share of a tally: what the worker added, and the last total that it was told
pub record Counted : Type 0 where
  pub amount : ℕ
  pub seen : ℕ

-- a share that was never used
abbrev pub unused : Counted
unused = record { amount = 0; seen = 0 }

-- what all workers added
abbrev pub total_of : List Counted → ℕ
total_of shares = sum_by (λ s. s.amount) shares
