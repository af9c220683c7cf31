-- The results of observing in pieces: that of one worker, and that of all.
use Rattle.std.specs.Prelude.{ℕ, ◌<◌, ◌≤◌, ◌^◌, ℤ, Bool, List, [], ◌≡◌, ◌⊎◌, Result, Ok, Err, length, filter}
use Rattle.fm_tally.specs.declared.error.TallyError.{TallyError}
use Rattle.fm_tally.specs.declared.error.TallyError.TheVariants.{Memory, GateRefused, CountFull, SpawnFailed}
use Rattle.fm_histogram.specs.Histogram.{Histogram, IsHistogram}

-- how observing this number of pieces with these values together may fail: the gate refuses one of the pieces that it
-- may refuse, the values that count are more than a count holds, there is no memory, or a worker can't be started
abbrev pub MayFail : (ℤ → Bool) → (ℕ → Type 0) → ℕ → List ℤ → TallyError → Type 0
MayFail taken refuses pieces values (GateRefused piece) = (piece < pieces) × refuses piece
MayFail taken refuses pieces values CountFull = 2 ^ 64 ≤ length (filter taken values)
MayFail taken refuses pieces values Memory = Unit {0}
MayFail taken refuses pieces values SpawnFailed = Unit {0}
MayFail taken refuses pieces values _ = ⊥

-- the result of one worker: the histogram of its piece with the bounds of the empty one, the error `Memory`, or the
-- refusal of its piece by a gate that may refuse it
abbrev pub IsObserved : (ℤ → Bool) → (ℕ → Type 0) → Histogram → ℕ → List ℤ → Result Histogram TallyError → Type 0
IsObserved taken refuses empty index piece (Ok s) = (bounds : List ℤ) → IsHistogram taken bounds [] empty → IsHistogram taken bounds piece s
IsObserved taken refuses empty index piece (Err e) = (e ≡ Memory) ⊎ ((e ≡ GateRefused index) × refuses index)
