-- The buckets have all values together: each value lies in exactly one.
use Rattle.std.proofs.Common.{◌≡◌, ◌+◌, Bool, true, false, ◌&&◌, not, cond, ℤ, int_lt, List, [], ◌∷◌, Option, None, Some, length, count_by, refl, ◌∙◌, arith}
use Rattle.std.proofs.lemmas.Int.{ints}
use Rattle.std.proofs.lemmas.List.Sums.{sum_by-cons}
use Rattle.fm_raw.specs.declared.bucket.bound.Bucket.{Bucket}
use Rattle.fm_raw.specs.declared.bucket.bound.Bound.TheVariants.{Finite}
use Rattle.fm_encoder.specs.Points.{values_in}
use Rattle.fm_histogram.specs.Histogram.{Histogram, CountsTaken, is_above, is_between, buckets_above, rises}
use Rattle.fm_histogram.proofs.BucketLemmas.{and_left, and_right}

-- what is above a bound is above the one before
above_before : (low : Option ℤ) (b x : ℤ) → is_above low b ≡ true → int_lt b x ≡ true → is_above low x ≡ true
above_before None b x h k = refl
above_before (Some l) b x h k = grind (arith, ints)

-- a value above the bound before is in the interval or above it, and not both
one_of : (above beyond : Bool) → (beyond ≡ true → above ≡ true) → cond (above && not beyond) 1 0 + cond beyond 1 0 ≡ cond above 1 0
one_of true true h = refl
one_of true false h = refl
one_of false true h = absurd (let e : false ≡ true = h refl in cc)
one_of false false h = refl

-- one value more in a list
count_more : (p : ℤ → Bool) (x : ℤ) (xs : List ℤ) → count_by p (x ∷ xs) ≡ cond (p x) 1 0 + count_by p xs
count_more p x xs = sum_by-cons (λ y. cond (p y) 1 0) x xs

-- the same of all values of a list
split : (low : Option ℤ) (b : ℤ) (xs : List ℤ) → is_above low b ≡ true → count_by (is_between low b) xs + count_by (is_above (Some b)) xs ≡ count_by (is_above low) xs
split low b [] h = refl
split low b (x ∷ xs) h =
    let here : cond (is_between low b x) 1 0 + cond (is_above (Some b) x) 1 0 ≡ cond (is_above low x) 1 0 = one_of (is_above low x) (int_lt b x) (above_before low b x h) in
    omega (arith, here, split low b xs h, count_more (is_between low b) x xs, count_more (is_above (Some b)) x xs, count_more (is_above low) x xs)

-- the buckets after a bound have the values above it
in_buckets : (low : Option ℤ) (bounds xs : List ℤ) → rises low bounds ≡ true → values_in (buckets_above low bounds xs) ≡ count_by (is_above low) xs
in_buckets low [] xs up = omega arith
in_buckets low (b ∷ bs) xs up =
    let rest = in_buckets (Some b) bs xs (and_right (is_above low b) (rises (Some b) bs) up) in
    let first : values_in (buckets_above low (b ∷ bs) xs) ≡ count_by (is_between low b) xs + values_in (buckets_above (Some b) bs xs) = sum_by-cons (λ (c : Bucket). c.count) (record { upper_bound = Finite b; count = count_by (is_between low b) xs }) (buckets_above (Some b) bs xs) in
    omega (arith, first, rest, split low b xs (and_left (is_above low b) (rises (Some b) bs) up))

-- each value is above no bound
all_above : (xs : List ℤ) → count_by (is_above None) xs ≡ length xs
all_above [] = refl
all_above (x ∷ xs) = omega (arith, count_more (is_above None) x xs, all_above xs)

-- a snapshot's buckets have together what it counts
pub counts_all : (taken : ℤ → Bool) (s : Histogram) → CountsTaken taken s → values_in s.buckets ≡ s.count
counts_all taken s some = rw some.is.is (in_buckets None some.bounds some.values some.is.increasing ∙ all_above some.values)
