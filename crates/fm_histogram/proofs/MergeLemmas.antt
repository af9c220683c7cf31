-- The histogram of two lists, one after the other.
use Rattle.std.proofs.Common.{◌≡◌, ℕ, suc, zero, ◌+◌, ◌<◌, Bool, cond, ℤ, ◌+ℤ◌, List, [], ◌∷◌, ◌++◌, Option, Some, None, length, get_or, set, filter, count_by, refl, ap, sym, ◌∙◌, arith, length-append}
use Rattle.std.proofs.lemmas.Int.{ints}
use Rattle.std.proofs.lemmas.List.{length-map}
use Rattle.std.proofs.lemmas.List.Sums.{sum_by-append}
use Rattle.std.proofs.lemmas.List.Elements.{filter-append}
use Rattle.fm_raw.specs.declared.bucket.bound.Bucket.{Bucket}
use Rattle.fm_raw.specs.declared.bucket.bound.Bound.TheVariants.{Finite, Inf}
use Rattle.fm_histogram.specs.Histogram.{Histogram, IsCounts, IsHistogram, total, is_above, is_between, buckets_above, merged_buckets, merged, upper_bounds}

-- sums and counts of two lists, one after the other
total-append : (xs ys : List ℤ) → total (xs ++ ys) ≡ total xs +ℤ total ys
total-append [] ys = omega (arith, ints)
total-append (x ∷ xs) ys = omega (arith, ints, total-append xs ys)

count_by-append : (p : ℤ → Bool) (xs ys : List ℤ) → count_by p (xs ++ ys) ≡ count_by p xs + count_by p ys
count_by-append p xs ys = sum_by-append (λ x. cond (p x) 1 0) xs ys

-- the buckets of two lists of values, one after the other
buckets-append : (low : Option ℤ) (bounds xs ys : List ℤ) → buckets_above low bounds (xs ++ ys) ≡ merged_buckets (buckets_above low bounds xs) (buckets_above low bounds ys)
buckets-append low [] xs ys = ap (λ n. record { upper_bound = Inf; count = n } ∷ []) (count_by-append (is_above low) xs ys)
buckets-append low (b ∷ bs) xs ys = rw (count_by-append (is_between low b) xs ys, buckets-append (Some b) bs xs ys) refl

-- the merged histograms of two lists are the histogram of the joined list
pub merges : (bounds xs ys : List ℤ) (s t : Histogram) → IsCounts bounds xs s → IsCounts bounds ys t → IsCounts bounds (xs ++ ys) (merged s t)
merges bounds xs ys s t h k =
    let buckets : merged_buckets s.buckets t.buckets ≡ buckets_above None bounds (xs ++ ys) = rw (h.is, k.is) (sym (buckets-append None bounds xs ys)) in
    let count : s.count + t.count ≡ length (xs ++ ys) = rw (h.is, k.is) (sym (length-append xs ys)) in
    let sum : s.sum +ℤ t.sum ≡ total (xs ++ ys) = rw (h.is, k.is) (sym (total-append xs ys)) in
    record { increasing = h.increasing; is = rw (buckets, count, sum) refl }

-- the same of those values that are taken
pub merges_taken : (p : ℤ → Bool) (bounds xs ys : List ℤ) (s t u : Histogram) → u ≡ merged s t → IsHistogram p bounds xs s → IsHistogram p bounds ys t → IsHistogram p bounds (xs ++ ys) u
merges_taken p bounds xs ys s t u is h k = rw (is, filter-append p xs ys) (merges bounds (filter p xs) (filter p ys) s t h k)

-- the first n buckets merged
abbrev pub merged_upto : ℕ → List Bucket → List Bucket → List Bucket
merged_upto zero as' bs = as'
merged_upto (suc n) [] bs = []
merged_upto (suc n) (a ∷ as') [] = a ∷ as'
merged_upto (suc n) (a ∷ as') (b ∷ bs) = record { upper_bound = a.upper_bound; count = a.count + b.count } ∷ merged_upto n as' bs

-- all buckets merged, and what has not been merged yet
pub merged_all : (as' bs : List Bucket) → length as' ≡ length bs → merged_upto (length bs) as' bs ≡ merged_buckets as' bs
merged_all [] [] e = refl
merged_all [] (b ∷ bs) e = refl
merged_all (a ∷ as') [] e = absurd (omega arith)
merged_all (a ∷ as') (b ∷ bs) e = ap (λ cs. record { upper_bound = a.upper_bound; count = a.count + b.count } ∷ cs) (merged_all as' bs (omega arith))

pub merged_upto-get : (n : ℕ) (as' bs : List Bucket) (d : Bucket) → get_or (merged_upto n as' bs) n d ≡ get_or as' n d
merged_upto-get zero as' bs d = refl
merged_upto-get (suc n) [] bs d = refl
merged_upto-get (suc n) (a ∷ as') [] d = refl
merged_upto-get (suc n) (a ∷ as') (b ∷ bs) d = merged_upto-get n as' bs d

pub merged_upto-length : (n : ℕ) (as' bs : List Bucket) → length (merged_upto n as' bs) ≡ length as'
merged_upto-length zero as' bs = refl
merged_upto-length (suc n) [] bs = refl
merged_upto-length (suc n) (a ∷ as') [] = refl
merged_upto-length (suc n) (a ∷ as') (b ∷ bs) = ap suc (merged_upto-length n as' bs)

pub merged_more : (n : ℕ) (as' bs : List Bucket) (a b : Bucket) → n < length as' → n < length bs → a ≡ get_or as' n a → b ≡ get_or bs n b
    → set (merged_upto n as' bs) n (record { upper_bound = a.upper_bound; count = a.count + b.count }) ≡ merged_upto (suc n) as' bs
merged_more n [] bs a b h k e f = absurd (omega arith)
merged_more n (a' ∷ as') [] a b h k e f = absurd (omega arith)
merged_more zero (a' ∷ as') (b' ∷ bs) a b h k e f = rw (e, f) refl
merged_more (suc n) (a' ∷ as') (b' ∷ bs) a b h k e f =
    ap (λ cs. record { upper_bound = a'.upper_bound; count = a'.count + b'.count } ∷ cs) (merged_more n as' bs a b (omega arith) (omega arith) e f)

-- the bounds of a histogram's buckets are the bounds
pub upper_bounds_same : (low : Option ℤ) (bounds xs ys : List ℤ) → upper_bounds (buckets_above low bounds xs) ≡ upper_bounds (buckets_above low bounds ys)
upper_bounds_same low [] xs ys = refl
upper_bounds_same low (b ∷ bs) xs ys = ap (λ cs. Finite b ∷ cs) (upper_bounds_same (Some b) bs xs ys)

-- the bounds name what they are of
pub bounds_same : (low low' : Option ℤ) (bounds bounds' xs ys : List ℤ) → upper_bounds (buckets_above low bounds xs) ≡ upper_bounds (buckets_above low' bounds' ys) → bounds ≡ bounds'
bounds_same low low' [] [] xs ys e = refl
bounds_same low low' [] (b ∷ bs) xs ys e = absurd (cc)
bounds_same low low' (b ∷ bs) [] xs ys e = absurd (cc)
bounds_same low low' (b ∷ bs) (b' ∷ bs') xs ys e =
    let head : b ≡ b' = cc in
    let tail : upper_bounds (buckets_above (Some b) bs xs) ≡ upper_bounds (buckets_above (Some b') bs' ys) = cc in
    let rest = bounds_same (Some b) (Some b') bs bs' xs ys tail in
    cc

-- equal lists of bounds agree index by index, and are as long
pub bound_at : (ls rs : List Bucket) (i : ℕ) (d e : Bucket) → i < length ls → i < length rs → upper_bounds ls ≡ upper_bounds rs → (get_or ls i d).upper_bound ≡ (get_or rs i e).upper_bound
bound_at [] rs i d e h k same = absurd (omega arith)
bound_at (l ∷ ls) [] i d e h k same = absurd (omega arith)
bound_at (l ∷ ls) (r ∷ rs) zero d e h k same = cc
bound_at (l ∷ ls) (r ∷ rs) (suc i) d e h k same =
    let tail : upper_bounds ls ≡ upper_bounds rs = cc in bound_at ls rs i d e (omega arith) (omega arith) tail

pub lengths_same : (ls rs : List Bucket) → upper_bounds ls ≡ upper_bounds rs → length ls ≡ length rs
lengths_same ls rs e = sym (length-map ls (λ (b : Bucket). b.upper_bound)) ∙ (ap length e ∙ length-map rs (λ (b : Bucket). b.upper_bound))
