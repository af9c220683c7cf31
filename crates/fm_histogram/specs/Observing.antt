-- What observing makes of a histogram, which is known only while its lock is held.
use Rattle.std.specs.Prelude.{◌≡◌, ℕ, ◌+◌, ◌-◌, ◌/◌, ◌^◌, ◌↔◌, Bool, true, ℤ, pos, List, [], ◌∷◌, ◌++◌, Result, Err, OnOk, OnErr, IfErr, min}
use Rattle.std.specs.Duration.{as_nanos}
use Rattle.std.specs.declared.time.Duration.{Duration}
use Rattle.fm_raw.specs.declared.error.MetricError.{MetricError}
use Rattle.fm_raw.specs.declared.error.MetricError.TheVariants.{CountFull}
use Rattle.fm_histogram.specs.Histogram.{Histogram, IsHistogram, CountsTaken}

-- the lock protected a state of which this is known, and the call made this of it, with this result
pub record Locked {S R : Type 0} (IsSound : S → Type 0) (IsDone : S → S → R → Type 0) (result : R) : Type 0 where
  pub old : S
  pub new : S
  pub sound : IsSound old
  pub is_done : IsDone old new result

-- At Ok the value is counted, if it is taken. It is refused exactly if it is taken and the count is the greatest, and then the histogram stays
pub record Observes (taken : ℤ → Bool) (value : ℤ) (old new : Histogram) (result : Result (Unit {0}) MetricError) : Type 0 where
  pub counted : OnOk result ((bounds xs : List ℤ) → IsHistogram taken bounds xs old → IsHistogram taken bounds (xs ++ value ∷ []) new)
  pub full : (result ≡ Err CountFull) ↔ ((old.count + 1 ≡ 2 ^ 64) × (taken value ≡ true))
  pub only_full : IfErr result (λ e. e ≡ CountFull)
  pub kept : OnErr result (new ≡ old)

-- the lock protected the histogram of some values, and the value was observed there, with this result
abbrev pub ObservesLocked : (ℤ → Bool) → ℤ → Result (Unit {0}) MetricError → Type 0
ObservesLocked taken value = Locked (CountsTaken taken) (Observes taken value)

-- a duration in seconds, in millionths: its whole microseconds, or the greatest number of 64 bits where they are more
abbrev pub seconds_of : Duration → ℤ
seconds_of duration = pos (min (as_nanos duration / 1000) (2 ^ 63 - 1))
