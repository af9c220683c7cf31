use Rattle.std.proofs.Common.{◌≡◌, ℕ, ◌+◌, ℤ, List, [], ◌∷◌, Option, Some, None, count_by, refl, ap, arith}
use Rattle.std.proofs.lemmas.Int.{ints}
use Rattle.fm_raw.specs.declared.bucket.bound.Bound.TheVariants.{Inf}
use Rattle.fm_raw.specs.declared.bucket.bound.Bucket.{Bucket}
use Rattle.fm_histogram.specs.Histogram.{Histogram, is_between, buckets_above, merged_buckets, upper_bounds}
use Rattle.fm_laws.proofs.merging_is_lawful.Goals as goal

abbrev histogram : List Bucket → ℕ → ℤ → Histogram
histogram bs n z = record { buckets = bs; count = n; sum = z }

parts : (bs cs : List Bucket) (n m : ℕ) (y z : ℤ) → bs ≡ cs → n ≡ m → y ≡ z → histogram bs n y ≡ histogram cs m z
parts bs cs n m y z e f g = rw (e, f, g) refl

swapped : (as' bs : List Bucket) → upper_bounds as' ≡ upper_bounds bs → merged_buckets as' bs ≡ merged_buckets bs as'
swapped [] [] e = refl
swapped [] (b ∷ bs) e = absurd (cc)
swapped (a ∷ as') [] e = absurd (cc)
swapped (a ∷ as') (b ∷ bs) e =
    let head : a.upper_bound ≡ b.upper_bound = cc in
    let tail : upper_bounds as' ≡ upper_bounds bs = cc in
    let count : a.count + b.count ≡ b.count + a.count = omega arith in
    rw (head, count, swapped as' bs tail) refl

grouped : (as' bs cs : List Bucket) → merged_buckets (merged_buckets as' bs) cs ≡ merged_buckets as' (merged_buckets bs cs)
grouped [] bs cs = refl
grouped (a ∷ as') [] cs = refl
grouped (a ∷ as') (b ∷ bs) [] = refl
grouped (a ∷ as') (b ∷ bs) (c ∷ cs) =
    let count : (a.count + b.count) + c.count ≡ a.count + (b.count + c.count) = omega arith in
    rw (count, grouped as' bs cs) refl

with_none : (low : Option ℤ) (bounds xs : List ℤ) → merged_buckets (buckets_above low bounds xs) (buckets_above low bounds []) ≡ buckets_above low bounds xs
with_none low [] xs = ap (λ n. record { upper_bound = Inf; count = n } ∷ []) (omega arith)
with_none low (b ∷ bs) xs =
    let count : count_by (is_between low b) xs + 0 ≡ count_by (is_between low b) xs = omega arith in
    rw (count, with_none (Some b) bs xs) refl

pub returns : goal.returns
returns c = record {
  commutative = λ s t e. parts _ _ _ _ _ _ (swapped s.buckets t.buckets e) (omega arith) (omega (arith, ints));
  associative = λ s t u. parts _ _ _ _ _ _ (grouped s.buckets t.buckets u.buckets) (omega arith) (omega (arith, ints));
  neutral = λ bounds xs. parts _ _ _ _ _ _ (with_none None bounds xs) (omega arith) (omega (arith, ints));
}
