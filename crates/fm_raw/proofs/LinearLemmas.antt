-- Lists of bounds with equal steps, one bound after the other.
use Rattle.std.proofs.Common.{◌≡◌, ℕ, zero, suc, ◌+◌, ◌-◌, ◌*◌, ◌/◌, ◌<◌, ◌≤◌, ℤ, pos, negsuc, ◌+ℤ◌, ◌-ℤ◌, ◌*ℤ◌, ◌≤ℤ◌, ◌<ℤ◌, ◌∷◌, map, refl, ap, sym, subst, ◌∙◌, arith, to_z, of_z}
use Rattle.std.specs.Int.{w64}
use Rattle.std.specs.Int.RustNames.{FitsSigned, unsigned_abs}
use Rattle.std.specs.List.{range_with_len}
use Rattle.std.proofs.Math.IntN.{suc_ℤ-*ℤ, *ℤ_comm, *ℤ-zero}
use Rattle.std.proofs.Math.Nat.{le-div_iff_mul-le, div-lt_iff_lt-mul, mul_comm}
use Rattle.std.proofs.lemmas.Int.{ints, to_z-of_z}
use Rattle.fm_raw.specs.Signed.{IsSigned}
use Rattle.fm_raw.specs.Bounds.{linear_bounds}
use Rattle.fm_raw.specs.inside.Fits.{FitLinear}

-- a list made by index, from the second index on
pub map_shifted : (f g : ℕ → ℤ) (a b n : ℕ) → ((i : ℕ) → f (a + i) ≡ g (b + i)) → map f (range_with_len a n) ≡ map g (range_with_len b n)
map_shifted f g a b zero same = refl
map_shifted f g a b (suc n) same =
    let here : f a ≡ g b = (let e : a + 0 ≡ a = omega arith in let e' : b + 0 ≡ b = omega arith in sym (ap f e) ∙ same 0 ∙ ap g e') in
    let later : (i : ℕ) → f (a + 1 + i) ≡ g (b + 1 + i) = λ i. (let e : a + 1 + i ≡ a + (i + 1) = omega arith in let e' : b + (i + 1) ≡ b + 1 + i = omega arith in ap f e ∙ same (i + 1) ∙ ap g e') in
    rw (here, map_shifted f g (a + 1) (b + 1) n later) refl

-- one width more
times_more : (width : ℤ) (i : ℕ) → width *ℤ pos (i + 1) ≡ width *ℤ pos i +ℤ width
times_more width i =
    let e : pos (i + 1) ≡ pos (suc i) = ap pos (omega arith) in
    ap (λ k. width *ℤ k) e ∙ *ℤ_comm width (pos (suc i)) ∙ suc_ℤ-*ℤ (pos i) width ∙ ap (λ k. k +ℤ width) (*ℤ_comm (pos i) width)

-- the bound after the next is the next bound of what is left
shifted : (next width : ℤ) (i : ℕ) → next +ℤ width *ℤ pos (i + 1) ≡ (next +ℤ width) +ℤ width *ℤ pos i
shifted next width i = omega (arith, ints, times_more width i)

-- the first bound, and those that are left
pub linear_more : (next width : ℤ) (left : ℕ) → 0 < left → linear_bounds next width left ≡ next ∷ linear_bounds (next +ℤ width) width (left - 1)
linear_more next width left some =
    let e : left ≡ suc (left - 1) = omega arith in
    let first : next +ℤ width *ℤ pos 0 ≡ next = ap (λ z. next +ℤ z) (*ℤ-zero width) ∙ omega (arith, ints) in
    let others = map_shifted (λ i. next +ℤ width *ℤ pos i) (λ i. (next +ℤ width) +ℤ width *ℤ pos i) 1 0 (left - 1) (λ i. (let k : 1 + i ≡ i + 1 = omega arith in let l : 0 + i ≡ i = omega arith in rw (k, l) (shifted next width i))) in
    ap (linear_bounds next width) e ∙ ap (λ z. z ∷ map (λ i. next +ℤ width *ℤ pos i) (range_with_len 1 (left - 1))) first ∙ ap (λ zs. next ∷ zs) others

-- what is left fits if all do
pub fit_more : (next width : ℤ) (left : ℕ) → FitLinear next width left → FitLinear (next +ℤ width) width (left - 1)
fit_more next width left fits i h =
    let inside : i + 1 < left = omega arith in
    subst (IsSigned 63) (shifted next width i) (fits (i + 1) inside)

-- the second bound fits if there is one
pub second_fits : (next width : ℤ) (left : ℕ) → FitLinear next width left → 1 < left → IsSigned 63 (next +ℤ width)
second_fits next width left fits h =
    let e : width *ℤ pos 0 ≡ pos 0 = *ℤ-zero width in
    subst (IsSigned 63) (shifted next width 0 ∙ omega (arith, ints, e)) (fits 1 h)

-- the code's sum
pub sum_is : (next width : ℤ) → FitsSigned w64 next → FitsSigned w64 width → IsSigned 63 (next +ℤ width) → to_z w64 (of_z w64 (to_z w64 (of_z w64 next) +ℤ to_z w64 (of_z w64 width))) ≡ next +ℤ width
sum_is next width f g h = omega (arith, ints)

pub sum_fits : (next width : ℤ) → FitsSigned w64 next → FitsSigned w64 width → IsSigned 63 (next +ℤ width) → FitsSigned w64 (to_z w64 (of_z w64 next) +ℤ to_z w64 (of_z w64 width))
sum_fits next width f g h = omega (arith, ints)

-- the first bound doesn't matter if none is left
pub no_less : (bound next width : ℤ) (left : ℕ) → (0 < left → bound ≡ next) → linear_bounds bound width left ≡ linear_bounds next width left
no_less bound next width zero same = refl
no_less bound next width (suc left) same = ap (λ z. linear_bounds z width (suc left)) (same (omega arith))

-- a number that is not negative is its magnitude
magnitude_is : (z : ℤ) → pos 0 ≤ℤ z → pos (unsigned_abs z) ≡ z
magnitude_is (pos n) h = refl
magnitude_is (negsuc n) h = absurd (omega (arith, ints))

-- how far the greatest number is above the start
pub room_is : (start next : ℤ) (room : ℕ) → FitsSigned w64 next → next ≡ start → room ≡ unsigned_abs (pos 9223372036854775807 -ℤ to_z w64 (of_z w64 next)) → pos room ≡ pos 9223372036854775807 -ℤ start
room_is start next room fits same is =
    let e : to_z w64 (of_z w64 next) ≡ start = to_z-of_z w64 next fits ∙ same in
    let fits' : FitsSigned w64 start = subst (FitsSigned w64) same fits in
    let above : pos 0 ≤ℤ (pos 9223372036854775807 -ℤ start) = omega (arith, ints) in
    ap pos is ∙ ap (λ z. pos (unsigned_abs (pos 9223372036854775807 -ℤ z))) e ∙ magnitude_is (pos 9223372036854775807 -ℤ start) above

-- the width by its magnitude
pub width_is : (width wide : ℤ) (size : ℕ) → FitsSigned w64 wide → wide ≡ width → pos 0 <ℤ width → size ≡ unsigned_abs (to_z w64 (of_z w64 wide)) → width ≡ pos size
width_is width wide size fits same some is =
    let e : to_z w64 (of_z w64 wide) ≡ width = to_z-of_z w64 wide fits ∙ same in
    let above : pos 0 ≤ℤ width = omega (arith, ints) in
    sym (ap pos is ∙ ap (λ z. pos (unsigned_abs z)) e ∙ magnitude_is width above)

-- more steps than have room lead past the greatest number
pub steps_past : (start width : ℤ) (room size steps : ℕ) → pos room ≡ pos 9223372036854775807 -ℤ start → width ≡ pos size → pos 0 <ℤ width → room / size < steps → pos 9223372036854775808 ≤ℤ (start +ℤ width *ℤ pos steps)
steps_past start width room size steps far wide some many =
    let above : 0 < size = omega (arith, ints, some, wide) in
    let over : room < steps * size = (div-lt_iff_lt-mul above).0 many in
    let e : width *ℤ pos steps ≡ pos (steps * size) = ap (λ z. z *ℤ pos steps) wide ∙ ap pos (mul_comm size steps) in
    omega (arith, ints, e, over, far)

-- as many as have room don't
pub steps_within : (start width : ℤ) (room size steps : ℕ) → pos room ≡ pos 9223372036854775807 -ℤ start → width ≡ pos size → pos 0 <ℤ width → FitsSigned w64 start → steps ≤ room / size → IsSigned 63 (start +ℤ width *ℤ pos steps)
steps_within start width room size steps far wide some fits few =
    let above : 0 < size = omega (arith, ints, some, wide) in
    let under : steps * size ≤ room = (le-div_iff_mul-le above).0 few in
    let e : width *ℤ pos steps ≡ pos (steps * size) = ap (λ z. z *ℤ pos steps) wide ∙ ap pos (mul_comm size steps) in
    (omega (arith, ints, e, far), omega (arith, ints, e, under, far))
