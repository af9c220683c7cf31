-- The bucket of one value more, and its index.
use Rattle.std.proofs.Common.{◌≡◌, ℕ, suc, zero, ◌+◌, ◌<◌, ◌≤◌, Bool, true, false, ◌&&◌, cond, ltb, ℤ, List, [], ◌∷◌, ◌++◌, Option, Some, length, get_or, set, count_by, refl, ap, ◌∙◌, arith, int_lt}
use Rattle.std.proofs.lemmas.Int.{ints}
use Rattle.std.proofs.lemmas.Bool.Decides.{nat_tests}
use Rattle.std.proofs.lemmas.List.Sums.{sum_by-append, count_by-le-length}
use Rattle.fm_raw.specs.declared.bucket.bound.Bucket.{Bucket}
use Rattle.fm_raw.specs.declared.bucket.bound.Bound.TheVariants.{Finite, Inf}
use Rattle.fm_histogram.specs.Histogram.{is_above, is_between, buckets_above, rises, index_among, index}
use Rattle.fm_histogram.specs.inside.Counting.{one_more}

-- a bound above one that is not below x is not below x
stays_above : (a b x : ℤ) → int_lt a x ≡ false → int_lt a b ≡ true → int_lt b x ≡ false
stays_above a b x h k = grind (arith, ints)

-- the two parts of a test
pub and_left : (a b : Bool) → (a && b) ≡ true → a ≡ true
and_left true b h = refl
and_left false b h = h

pub and_right : (a b : Bool) → (a && b) ≡ true → b ≡ true
and_right true b h = h
and_right false b h = absurd (cc)

-- one more value for which the test returns true, or false, at
counted : (p : ℤ → Bool) (xs : List ℤ) (x : ℤ) → p x ≡ true → count_by p (xs ++ x ∷ []) ≡ count_by p xs + 1
counted p xs x h = sum_by-append (λ y. cond (p y) 1 0) xs (x ∷ []) ∙ (rw h refl)

not_counted : (p : ℤ → Bool) (xs : List ℤ) (x : ℤ) → p x ≡ false → count_by p (xs ++ x ∷ []) ≡ count_by p xs
not_counted p xs x h = sum_by-append (λ y. cond (p y) 1 0) xs (x ∷ []) ∙ (rw h (omega arith))

-- a value that is not above the bound before is counted in no bucket after it
unchanged : (low : ℤ) (bounds xs : List ℤ) (v : ℤ) → int_lt low v ≡ false → rises (Some low) bounds ≡ true
    → buckets_above (Some low) bounds (xs ++ v ∷ []) ≡ buckets_above (Some low) bounds xs
unchanged low [] xs v out up =
    ap (λ n. record { upper_bound = Inf; count = n } ∷ []) (not_counted (is_above (Some low)) xs v out)
unchanged low (b ∷ bs) xs v out up =
    let next = and_left (int_lt low b) (rises (Some b) bs) up in
    let rest = unchanged b bs xs v (stays_above low b v out next) (and_right (int_lt low b) (rises (Some b) bs) up) in
    let here : is_between (Some low) b v ≡ false = rw out refl in
    let count = not_counted (is_between (Some low) b) xs v here in
    ap (λ n. record { upper_bound = Finite b; count = n } ∷ buckets_above (Some b) bs (xs ++ v ∷ [])) count
    ∙ ap (λ bs'. record { upper_bound = Finite b; count = count_by (is_between (Some low) b) xs } ∷ bs') rest

-- the buckets after one more value
abbrev pub after : ℤ → Bucket → List Bucket → List Bucket
after v d bs = set bs (index v bs) (one_more (get_or bs (index v bs) d))

-- a step of the next lemma, by whether the bound is below the value
observed_by : (low : Option ℤ) (b : ℤ) (bounds xs : List ℤ) (v : ℤ) (d : Bucket) → is_above low v ≡ true → rises (Some b) bounds ≡ true
    → (int_lt b v ≡ true → buckets_above (Some b) bounds (xs ++ v ∷ []) ≡ after v d (buckets_above (Some b) bounds xs))
    → (below : Bool) → int_lt b v ≡ below
    → buckets_above low (b ∷ bounds) (xs ++ v ∷ []) ≡ after v d (buckets_above low (b ∷ bounds) xs)
observed_by low b bs xs v d above up rest true is =
    let here : is_between low b v ≡ false = rw (above, is) refl in
    let count = not_counted (is_between low b) xs v here in
    let e = rest is in
    rw (is, count, e) refl
observed_by low b bs xs v d above up rest false is =
    let e = unchanged b bs xs v is up in
    let here : is_between low b v ≡ true = rw (above, is) refl in
    let count = counted (is_between low b) xs v here in
    rw (is, count, e) refl

-- one more value is counted in the bucket at its index
pub observed : (low : Option ℤ) (bounds xs : List ℤ) (v : ℤ) (d : Bucket) → is_above low v ≡ true → rises low bounds ≡ true
    → buckets_above low bounds (xs ++ v ∷ []) ≡ after v d (buckets_above low bounds xs)
observed low [] xs v d above up = ap (λ n. record { upper_bound = Inf; count = n } ∷ []) (counted (is_above low) xs v above)
observed low (b ∷ bs) xs v d above up =
    let next = and_right (is_above low b) (rises (Some b) bs) up in
    observed_by low b bs xs v d above next (λ h. observed (Some b) bs xs v d h next) (int_lt b v) refl

-- the bounds after one that is not below x are not below x
none_below : (low : ℤ) (bounds : List ℤ) (v d : ℤ) (i : ℕ) → int_lt low v ≡ false → rises (Some low) bounds ≡ true → i < length bounds → int_lt (get_or bounds i d) v ≡ false
none_below low [] v d i out up within = absurd (omega arith)
none_below low (b ∷ bs) v d zero out up within = stays_above low b v out (and_left (int_lt low b) (rises (Some b) bs) up)
none_below low (b ∷ bs) v d (suc i) out up within =
    none_below b bs v d i (stays_above low b v out (and_left (int_lt low b) (rises (Some b) bs) up)) (and_right (int_lt low b) (rises (Some b) bs) up) (omega arith)

-- the next index on both sides
zero_below : (p : ℕ) → true ≡ ltb 0 (suc p)
zero_below p = grind (arith, nat_tests)

suc_below : (i p : ℕ) → ltb i p ≡ ltb (suc i) (suc p)
suc_below i p = grind (arith, nat_tests)

never_below : (i : ℕ) → false ≡ ltb i 0
never_below i = grind (arith, nat_tests)

-- a step of the next lemma, by whether the bound is below x
first_by : (b : ℤ) (bounds : List ℤ) (v d : ℤ) (i : ℕ) → rises (Some b) bounds ≡ true → i < length (b ∷ bounds)
    → ((j : ℕ) → j < length bounds → int_lt (get_or bounds j d) v ≡ ltb j (index_among v bounds))
    → (below : Bool) → int_lt b v ≡ below → int_lt (get_or (b ∷ bounds) i d) v ≡ ltb i (index_among v (b ∷ bounds))
first_by b bs v d zero up within rest true is = rw is (zero_below (index_among v bs))
first_by b bs v d (suc i) up within rest true is = rw is (rest i (omega arith) ∙ suc_below i (index_among v bs))
first_by b bs v d zero up within rest false is = rw is (never_below 0)
first_by b bs v d (suc i) up within rest false is = rw is (none_below b bs v d i is up (omega arith) ∙ never_below (suc i))

-- the bounds below x come before its index, and no others
pub index_is_first : (low : Option ℤ) (bounds : List ℤ) (v d : ℤ) (i : ℕ) → rises low bounds ≡ true → i < length bounds → int_lt (get_or bounds i d) v ≡ ltb i (index_among v bounds)
index_is_first low [] v d i up within = absurd (omega arith)
index_is_first low (b ∷ bs) v d i up within =
    let next = and_right (is_above low b) (rises (Some b) bs) up in
    first_by b bs v d i next within (λ j h. index_is_first (Some b) bs v d j next h) (int_lt b v) refl

-- a step of the next lemma
within_by : (bs : List ℤ) (v : ℤ) (below : Bool) → index_among v bs ≤ length bs → cond below (suc (index_among v bs)) 0 ≤ suc (length bs)
within_by bs v true h = omega arith
within_by bs v false h = omega arith

-- the index is at most that after the last bound
pub index_within : (bounds : List ℤ) (v : ℤ) → index_among v bounds ≤ length bounds
index_within [] v = omega arith
index_within (b ∷ bs) v = within_by bs v (int_lt b v) (index_within bs v)

-- the bucket that takes a value is at the value's index among the bounds
pub index_is : (low : Option ℤ) (bounds xs : List ℤ) (v : ℤ) → index v (buckets_above low bounds xs) ≡ index_among v bounds
index_is low [] xs v = refl
index_is low (b ∷ bs) xs v = ap (λ n. cond (int_lt b v) (suc n) 0) (index_is (Some b) bs xs v)

-- one bucket more than bounds
pub count_of_buckets : (low : Option ℤ) (bounds xs : List ℤ) → length (buckets_above low bounds xs) ≡ length bounds + 1
count_of_buckets low [] xs = refl
count_of_buckets low (b ∷ bs) xs = omega (arith, count_of_buckets (Some b) bs xs)

-- no bucket counts more values than there are
pub counts_within : (low : Option ℤ) (bounds xs : List ℤ) (d : Bucket) (i : ℕ) → i < length (buckets_above low bounds xs) → (get_or (buckets_above low bounds xs) i d).count ≤ length xs
counts_within low [] xs d zero h = count_by-le-length (is_above low) xs
counts_within low [] xs d (suc i) h = absurd (omega arith)
counts_within low (b ∷ bs) xs d zero h = count_by-le-length (is_between low b) xs
counts_within low (b ∷ bs) xs d (suc i) h = counts_within (Some b) bs xs d i (omega arith)
