-- Lists of bounds with a factor, one bound after the other, and whole roots.
use Rattle.std.proofs.Common.{◌≡◌, ◌≢◌, inl, inr, ℕ, zero, suc, ◌+◌, ◌-◌, ◌*◌, ◌%◌, ◌^◌, ◌<◌, ◌≤◌, min, ℤ, pos, negsuc, ◌*ℤ◌, ◌<ℤ◌, ◌∷◌, map, refl, ap, sym, subst, ◌∙◌, arith}
use Rattle.std.specs.Int.RustNames.{unsigned_abs}
use Rattle.std.specs.List.{range_with_len}
use Rattle.std.proofs.Math.Nat.{pow-le-pow_left, pow-le-pow_right, pow-suc, pow-zero, one-le-pow, min-eq_right, mul-le-mul_left, mul-mod_right, mul_comm, mul_assoc}
use Rattle.std.proofs.lemmas.Int.{ints}
use Rattle.std.proofs.lemmas.Bool.{cases_lt}
use Rattle.fm_raw.specs.Bounds.{exponential_bounds}
use Rattle.fm_raw.specs.inside.Fits.{FitExponential}
use Rattle.fm_raw.proofs.LinearLemmas.{map_shifted}

-- a number above zero is its magnitude
pub magnitude_is : (z : ℤ) → pos 0 <ℤ z → pos (unsigned_abs z) ≡ z
magnitude_is (pos n) h = refl
magnitude_is (negsuc n) h = absurd (omega (arith, ints))

-- without a factor, and with one
at_zero : (next factor : ℕ) → next * factor ^ 0 ≡ next
at_zero next factor = rw (pow-zero factor) (omega arith)

first_power : (n : ℕ) → n ^ 1 ≡ n
first_power n = pow-suc n 0 ∙ rw (pow-zero n) (omega arith)

-- one factor more
pub power_more : (next factor i : ℕ) → next * factor ^ (i + 1) ≡ (next * factor) * factor ^ i
power_more next factor i =
    let e : factor ^ (i + 1) ≡ factor ^ suc i = ap (λ k. factor ^ k) (omega arith) in
    rw (e, pow-suc factor i, mul_comm (factor ^ i) factor) (sym (mul_assoc next factor (factor ^ i)))

-- the first bound, and those that are left
pub exponential_more : (next factor left : ℕ) → 0 < left → exponential_bounds (pos next) factor left ≡ pos next ∷ exponential_bounds (pos (next * factor)) factor (left - 1)
exponential_more next factor left some =
    let e : left ≡ suc (left - 1) = omega arith in
    let first : pos next *ℤ pos (factor ^ 0) ≡ pos next = ap pos (at_zero next factor) in
    let others = map_shifted (λ i. pos next *ℤ pos (factor ^ i)) (λ i. pos (next * factor) *ℤ pos (factor ^ i)) 1 0 (left - 1) (λ i. (let k : 1 + i ≡ i + 1 = omega arith in let l : 0 + i ≡ i = omega arith in rw (k, l) (ap pos (power_more next factor i)))) in
    ap (exponential_bounds (pos next) factor) e ∙ ap (λ z. z ∷ map (λ i. pos next *ℤ pos (factor ^ i)) (range_with_len 1 (left - 1))) first ∙ ap (λ zs. pos next ∷ zs) others

-- the first bound doesn't matter if none is left
pub no_less : (bound next factor left : ℕ) → (0 < left → bound ≡ next) → exponential_bounds (pos bound) factor left ≡ exponential_bounds (pos next) factor left
no_less bound next factor zero same = refl
no_less bound next factor (suc left) same = ap (λ z. exponential_bounds (pos z) factor (suc left)) (same (omega arith))

-- what is left fits if all do
pub fit_more : (next factor left : ℕ) → FitExponential next factor left → FitExponential (next * factor) factor (left - 1)
fit_more next factor left fits i h =
    let inside : i + 1 < left = omega arith in
    subst (λ n. n < 2 ^ 63) (power_more next factor i) (fits (i + 1) inside)

-- the first bound fits if there is one, and the second
pub first_fits : (next factor left : ℕ) → FitExponential next factor left → 0 < left → next < 2 ^ 63
first_fits next factor left fits h = subst (λ n. n < 2 ^ 63) (at_zero next factor) (fits 0 h)

pub second_fits : (next factor left : ℕ) → FitExponential next factor left → 1 < left → next * factor < 2 ^ 63
second_fits next factor left fits h =
    let e : next * factor ^ 1 ≡ next * factor = power_more next factor 0 ∙ at_zero (next * factor) factor in
    subst (λ n. n < 2 ^ 63) e (fits 1 h)

-- all bounds fit if the last does
pub all_fit : (next factor count : ℕ) → 1 ≤ factor → next * factor ^ (count - 1) < 2 ^ 63 → FitExponential next factor count
all_fit next factor count some last i h =
    let inside : i ≤ count - 1 = omega arith in
    let less = mul-le-mul_left next (pow-le-pow_right some inside) in
    omega (arith, less, last)

-- a power of 64 factors is no number of 64 bits
pub large : (base exponent : ℕ) → 2 ≤ base → 64 ≤ exponent → 2 ^ 64 - 1 ≡ min (base ^ exponent) (2 ^ 64 - 1)
large base exponent two many =
    let grows = pow-le-pow_left two exponent in
    let long : 2 ^ 64 ≤ 2 ^ exponent = pow-le-pow_right (omega arith) many in
    sym (min-eq_right (omega (arith, grows, long)))

pub ones : (exponent : ℕ) → 1 ^ exponent ≡ 1
ones zero = refl
ones (suc exponent) = pow-suc 1 exponent ∙ omega (arith, ones exponent)

-- a root of a number above one is at least two, and at most the number
pub root_between : (root exponent power : ℕ) → 0 < exponent → 0 < power → power ≢ 1 → root ^ exponent ≡ power → (2 ≤ root) × (root < power + 1)
root_between zero (suc exponent) power some above other is = absurd (omega (arith, pow-suc 0 exponent, is))
root_between (suc zero) exponent power some above other is = absurd (other (sym is ∙ ones exponent))
root_between (suc (suc root)) exponent power some above other is =
    let one : 1 ≤ exponent = omega arith in
    let least = pow-le-pow_right {n = suc (suc root)} (omega arith) one in
    let e : suc (suc root) ^ 1 ≡ suc (suc root) = first_power (suc (suc root)) in
    (omega arith, omega (arith, least, e, is))
root_between zero zero power some above other is = absurd (omega arith)

-- the number whose power is too small is below the root
pub root_above : (root middle exponent power : ℕ) → root ^ exponent ≡ power → middle ^ exponent < power → middle + 1 ≤ root
root_above root middle exponent power is small =
    elim (cases_lt middle root) [ inl above ↦ omega arith | inr below ↦ absurd (omega (arith, pow-le-pow_left below exponent, is, small)) ]

-- and the number whose power is too great is above it
pub root_below : (root middle exponent power : ℕ) → root ^ exponent ≡ power → power < middle ^ exponent → root < middle
root_below root middle exponent power is great =
    elim (cases_lt root middle) [ inl below ↦ below | inr above ↦ absurd (omega (arith, pow-le-pow_left above exponent, is, great)) ]

-- a number above zero times a power is above zero
pub product_above : (least factor steps : ℕ) → 0 < least → 1 ≤ factor → 0 < least * factor ^ steps
product_above least factor steps some one =
    let power = one-le-pow steps factor one in
    omega (arith, mul-le-mul_left least power)

-- a product has no remainder
pub no_remainder : (greatest : ℤ) (size least power : ℕ) → pos (least * power) ≡ greatest → size ≡ unsigned_abs greatest → size % least ≡ 0
no_remainder greatest size least power is same = rw (same, ← is) (mul-mod_right least power)

-- the last bound fits if it is a number of 64 bits, or the first
pub last_is : (least greatest : ℤ) (next factor steps : ℕ) → pos next ≡ least → least <ℤ pos (2 ^ 63) → greatest <ℤ pos (2 ^ 63) → (0 < steps → pos (next * factor ^ steps) ≡ greatest) → next * factor ^ steps < 2 ^ 63
last_is least greatest next factor zero same small small' leads = rw (at_zero next factor) (omega (arith, ints))
last_is least greatest next factor (suc steps) same small small' leads =
    let e = leads (omega arith) in omega (arith, ints, e, small')
