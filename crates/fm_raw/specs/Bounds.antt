-- Lists of bounds by index, and when such bounds are refused.
use Rattle.std.specs.Prelude.{ℕ, ◌-◌, ◌*◌, ◌^◌, ◌<◌, ◌≤◌, ◌≡◌, ◌≢◌, ℤ, pos, ◌+ℤ◌, ◌*ℤ◌, ◌≤ℤ◌, ◌<ℤ◌, List, [], ◌∷◌, map}
use Rattle.std.specs.List.{range_with_len}
use Rattle.fm_raw.specs.declared.bucket.error.BucketError.{BucketError}
use Rattle.fm_raw.specs.declared.bucket.error.BucketError.TheVariants.{NonPositiveWidth, ZeroCount, Overflow, NonPositiveStart, FactorTooSmall, NoWholeFactor}

-- a count of bounds: the first, and each greater by the width than the one before
abbrev pub linear_bounds : ℤ → ℤ → ℕ → List ℤ
linear_bounds start width count = map (λ i. start +ℤ width *ℤ pos i) (range_with_len 0 count)

-- a count of bounds: the first, and each the factor times the one before
abbrev pub exponential_bounds : ℤ → ℕ → ℕ → List ℤ
exponential_bounds start factor count = map (λ i. start *ℤ pos (factor ^ i)) (range_with_len 0 count)

-- 5, 10, 25, 50, 100, 250 and 500 thousandths, and 1, 2.5, 5 and 10
abbrev pub default_bounds : List ℤ
default_bounds = map pos (5000 ∷ 10000 ∷ 25000 ∷ 50000 ∷ 100000 ∷ 250000 ∷ 500000 ∷ 1000000 ∷ 2500000 ∷ 5000000 ∷ 10000000 ∷ [])

-- there is such a list of bounds with equal steps
pub record IsLinear (start width : ℤ) (count : ℕ) : Type 0 where
  pub widens : pos 0 <ℤ width
  pub some : 0 < count
  pub fits : (start +ℤ width *ℤ pos (count - 1)) <ℤ pos (2 ^ 63)

-- the first test of equal steps that fails
abbrev pub IsLinearFault : ℤ → ℤ → ℕ → BucketError → Type 0
IsLinearFault start width count NonPositiveWidth = width ≤ℤ pos 0
IsLinearFault start width count ZeroCount = (pos 0 <ℤ width) × (count ≡ 0)
IsLinearFault start width count Overflow = (pos 0 <ℤ width) × (0 < count) × (pos (2 ^ 63) ≤ℤ (start +ℤ width *ℤ pos (count - 1)))
IsLinearFault start width count _ = ⊥

-- there is such a list of bounds with a factor
pub record IsExponential (start : ℤ) (factor count : ℕ) : Type 0 where
  pub starts : pos 0 <ℤ start
  pub grows : 2 ≤ factor
  pub some : 0 < count
  pub fits : (start *ℤ pos (factor ^ (count - 1))) <ℤ pos (2 ^ 63)

-- the first test of bounds with a factor that fails
abbrev pub IsExponentialFault : ℤ → ℕ → ℕ → BucketError → Type 0
IsExponentialFault start factor count NonPositiveStart = start ≤ℤ pos 0
IsExponentialFault start factor count FactorTooSmall = (pos 0 <ℤ start) × (factor < 2)
IsExponentialFault start factor count ZeroCount = (pos 0 <ℤ start) × (2 ≤ factor) × (count ≡ 0)
IsExponentialFault start factor count Overflow = (pos 0 <ℤ start) × (2 ≤ factor) × (0 < count) × (pos (2 ^ 63) ≤ℤ (start *ℤ pos (factor ^ (count - 1))))
IsExponentialFault start factor count _ = ⊥

-- the whole factor leads from the least bound to the greatest; a single bound is the least
pub record IsWholeFactor (least greatest : ℤ) (count factor : ℕ) : Type 0 where
  pub whole : 1 ≤ factor
  pub leads : count ≢ 1 → least *ℤ pos (factor ^ (count - 1)) ≡ greatest

-- the bounds from the least to the greatest, each the same whole factor times the one before
pub record IsRange (least greatest : ℤ) (count : ℕ) (bounds : List ℤ) : Type 0 where
  pub starts : pos 0 <ℤ least
  pub some : 0 < count
  pub factor : ℕ
  pub leads : IsWholeFactor least greatest count factor
  pub bounds_are : bounds ≡ exponential_bounds least factor count

-- the first test of a range that fails
abbrev pub IsRangeFault : ℤ → ℤ → ℕ → BucketError → Type 0
IsRangeFault least greatest count NonPositiveStart = least ≤ℤ pos 0
IsRangeFault least greatest count ZeroCount = (pos 0 <ℤ least) × (count ≡ 0)
IsRangeFault least greatest count NoWholeFactor = (pos 0 <ℤ least) × (0 < count) × ((factor : ℕ) → ¬ (IsWholeFactor least greatest count factor))
IsRangeFault least greatest count _ = ⊥
