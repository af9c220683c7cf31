-- Bounds that were made by a rule.
use Rattle.std.specs.Prelude.{ℕ, ◌*◌, ◌^◌, ◌<◌, ℤ, pos, ◌+ℤ◌, ◌*ℤ◌}
use Rattle.fm_raw.specs.Signed.{IsSigned}

-- each of the bounds fits in 64 bits
abbrev pub FitLinear : ℤ → ℤ → ℕ → Type 0
FitLinear start width count = (i : ℕ) → i < count → IsSigned 63 (start +ℤ width *ℤ pos i)

abbrev pub FitExponential : ℕ → ℕ → ℕ → Type 0
FitExponential start factor count = (i : ℕ) → i < count → start * factor ^ i < 2 ^ 63
