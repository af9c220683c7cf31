-- One value more, and sums that fit.
use Rattle.std.proofs.Common.{◌≡◌, ℕ, ◌+◌, ◌*◌, ◌^◌, ◌<◌, ◌≤◌, Bool, true, false, ℤ, pos, neg_ℤ, ◌+ℤ◌, ◌≤ℤ◌, List, [], ◌∷◌, ◌++◌, None, length, get_or, set, filter, refl, sym, ◌∙◌, arith, length-append, to_z, of_z}
use Rattle.std.specs.Int.{w64, w128}
use Rattle.std.proofs.lemmas.Int.{ints}
use Rattle.std.specs.Int.RustNames.{FitsSigned}
use Rattle.std.proofs.lemmas.List.{append-nil}
use Rattle.std.proofs.lemmas.List.Elements.{filter-append}
use Rattle.fm_raw.specs.declared.bucket.bound.Bucket.{Bucket}
use Rattle.fm_histogram.specs.Histogram.{Histogram, IsCounts, total, buckets_above, index_among, index}
use Rattle.fm_histogram.specs.inside.Counting.{IsOfSome, one_more}
use Rattle.fm_histogram.proofs.BucketLemmas.{observed, counts_within, index_is}

-- the sum of one value more
total_more : (xs : List ℤ) (v : ℤ) → total (xs ++ v ∷ []) ≡ total xs +ℤ v
total_more [] v = omega (arith, ints)
total_more (x ∷ xs) v = omega (arith, ints, total_more xs v)

-- one value more that is taken, or not
pub taken_more : (p : ℤ → Bool) (xs : List ℤ) (v : ℤ) → p v ≡ true → filter p (xs ++ v ∷ []) ≡ filter p xs ++ v ∷ []
taken_more p xs v h = filter-append p xs (v ∷ []) ∙ (rw h refl)

pub not_taken_more : (p : ℤ → Bool) (xs : List ℤ) (v : ℤ) → p v ≡ false → filter p (xs ++ v ∷ []) ≡ filter p xs
not_taken_more p xs v h = filter-append p xs (v ∷ []) ∙ (rw h (append-nil (filter p xs)))

-- a sum of fewer than 2^64 values of 64 bits fits 128 bits
pub sum_fits : (sum v : ℤ) (count : ℕ) → neg_ℤ (pos (2 ^ 63 * count)) ≤ℤ sum → sum ≤ℤ pos (2 ^ 63 * count) → count < 2 ^ 64 → FitsSigned w64 v
    → to_z w128 (of_z w128 (to_z w128 (of_z w128 sum) +ℤ to_z w128 (of_z w128 v))) ≡ sum +ℤ v
sum_fits sum v count low high small fits = omega (arith, ints)

-- the histogram of one value more has one more in the bucket at its index
pub observes : (bounds xs : List ℤ) (s : Histogram) (v : ℤ) (at : ℕ) (d : Bucket) → IsCounts bounds xs s → at ≡ index v s.buckets
    → IsCounts bounds (xs ++ v ∷ []) (record { buckets = set s.buckets at (one_more (get_or s.buckets at d)); count = s.count + 1; sum = s.sum +ℤ v })
observes bounds xs s v at d h here =
    let buckets : set s.buckets at (one_more (get_or s.buckets at d)) ≡ buckets_above None bounds (xs ++ v ∷ []) = rw (here, h.is) (sym (observed None bounds xs v d refl h.increasing)) in
    let count : s.count + 1 ≡ length (xs ++ v ∷ []) = rw h.is (omega (arith, length-append xs (v ∷ []))) in
    let sum : s.sum +ℤ v ≡ total (xs ++ v ∷ []) = rw h.is (sym (total_more xs v)) in
    record { increasing = h.increasing; is = rw (buckets, count, sum) refl }

-- no bucket has more than all
pub count_within : (bounds : List ℤ) (s : Histogram) (i : ℕ) (d : Bucket) → IsOfSome bounds s → i < length s.buckets → (get_or s.buckets i d).count ≤ s.count
count_within bounds s i d some = rw some.is.is (λ h. counts_within None bounds some.values d i h)

-- the index of a value among the buckets is that among the bounds
pub index_here : (bounds : List ℤ) (s : Histogram) (v : ℤ) → IsOfSome bounds s → index v s.buckets ≡ index_among v bounds
index_here bounds s v some = rw some.is.is (index_is None bounds some.values v)

-- the sum of two sums fits if the counts do
pub sums_fit : (s t : ℤ) (n m : ℕ) → neg_ℤ (pos (2 ^ 63 * n)) ≤ℤ s → s ≤ℤ pos (2 ^ 63 * n) → neg_ℤ (pos (2 ^ 63 * m)) ≤ℤ t → t ≤ℤ pos (2 ^ 63 * m) → n + m < 2 ^ 64
    → to_z w128 (of_z w128 (to_z w128 (of_z w128 s) +ℤ to_z w128 (of_z w128 t))) ≡ s +ℤ t
sums_fit s t n m a b c d small = omega (arith, ints)

pub sums_low : (s t : ℤ) (n m : ℕ) → neg_ℤ (pos (2 ^ 63 * n)) ≤ℤ s → neg_ℤ (pos (2 ^ 63 * m)) ≤ℤ t → neg_ℤ (pos (2 ^ 63 * (n + m))) ≤ℤ (s +ℤ t)
sums_low s t n m a c = omega (arith, ints)

pub sums_high : (s t : ℤ) (n m : ℕ) → s ≤ℤ pos (2 ^ 63 * n) → t ≤ℤ pos (2 ^ 63 * m) → (s +ℤ t) ≤ℤ pos (2 ^ 63 * (n + m))
sums_high s t n m a c = omega (arith, ints)
