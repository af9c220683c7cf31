use Rattle.std.proofs.Common.{◌≡◌, ℕ, ◌+◌, ◌<◌, ℤ, ◌+ℤ◌, to_z, of_z, List, [], ◌∷◌, ◌++◌, length, get_or, set, None, refl, ap, sym, subst, ◌∙◌, arith, rules, pos, neg_ℤ, ◌≤ℤ◌, ◌*◌, ◌^◌, vec_len}
use Rattle.std.proofs.lemmas.Int.{ints, to_z-of_z}
use Rattle.std.proofs.lemmas.List.{with_items_is}
use Rattle.std.specs.Int.{w64, w128}
use Rattle.std.specs.Int.RustNames.{FitsSigned}
use Rattle.std.specs.Vec.{with_items}
use Rattle.fm_raw.specs.declared.bucket.bound.Bucket.{Bucket}
use Rattle.fm_histogram.specs.Histogram.{Histogram, IsCounts, index_among, index}
use Rattle.fm_histogram.specs.inside.Counting.{IsOfSome, one_more}
use Rattle.fm_histogram.proofs.BucketLemmas.{index_within, count_of_buckets}
use Rattle.fm_histogram.proofs.EmptyLemmas.{endless}
use Rattle.fm_histogram.proofs.CountLemmas.{sum_fits, observes, count_within, index_here}
use Rattle.fm_histogram.proofs.counts.Counts.add.Goals as goal

-- the index of a value is that of a bucket
within : (bounds : List ℤ) (s : Histogram) (v : ℤ) → IsOfSome bounds s → index v s.buckets < length s.buckets
within bounds s v some = subst (λ n. n < length s.buckets) (sym (index_here bounds s v some)) (rw some.is.is (omega (arith, index_within bounds v, count_of_buckets None bounds some.values)))

pub count_at-requires-clause-inside : goal.count_at-requires-clause-inside
count_at-requires-clause-inside c =
    rw (c.as_mut_slice.ensures.value, c.index_of-index.ensures, ← c.self.view_is) (within _ _ c.args.value c.self.invariant)

pub count_at-requires-clause-small : goal.count_at-requires-clause-small
count_at-requires-clause-small c d =
    let s : Histogram = record { buckets = c.self.inside.buckets.items; count = c.self.inside.count; sum = c.self.inside.sum } in
    let bounds = c.self.inside.bounds.items in
    let here = within bounds s c.args.value c.self.invariant in
    let few = count_within bounds s (index c.args.value s.buckets) d c.self.invariant here in
    rw (c.as_mut_slice.ensures.value, c.index_of-index.ensures, ← c.self.view_is) (omega (arith, few, c.in-Some.ensures.0))

-- what the code added
added_is : (sum v from given : ℤ) (count : ℕ) → (neg_ℤ (pos (2 ^ 63 * count)) ≤ℤ sum) × (sum ≤ℤ pos (2 ^ 63 * count)) → FitsSigned w64 given → from ≡ to_z w64 (of_z w64 given) → given ≡ v → count < 2 ^ 64
    → to_z w128 (of_z w128 (to_z w128 (of_z w128 sum) +ℤ to_z w128 (of_z w128 from))) ≡ sum +ℤ v
added_is sum v from given count bounds fits e same small =
    rw (e, to_z-of_z w64 given fits) (sum_fits sum given count bounds.0 bounds.1 small fits ∙ ap (λ z. sum +ℤ z) same)

sum_low : (sum v : ℤ) (count : ℕ) → neg_ℤ (pos (2 ^ 63 * count)) ≤ℤ sum → FitsSigned w64 v → neg_ℤ (pos (2 ^ 63 * (count + 1))) ≤ℤ (sum +ℤ v)
sum_low sum v count low fits = omega (arith, ints)

sum_high : (sum v : ℤ) (count : ℕ) → sum ≤ℤ pos (2 ^ 63 * count) → FitsSigned w64 v → (sum +ℤ v) ≤ℤ pos (2 ^ 63 * (count + 1))
sum_high sum v count high fits = omega (arith, ints)

-- one value more
more : (bounds : List ℤ) (s : Histogram) (v : ℤ) (at : ℕ) (d : Bucket) → IsOfSome bounds s → at ≡ index v s.buckets → FitsSigned w64 v
    → IsOfSome bounds (record { buckets = set s.buckets at (one_more (get_or s.buckets at d)); count = s.count + 1; sum = s.sum +ℤ v })
more bounds s v at d some here fits = record {
  values = some.values ++ v ∷ [];
  is = observes bounds some.values s v at d some.is here;
  low = sum_low s.sum v s.count some.low fits;
  high = sum_high s.sum v s.count some.high fits;
}

-- the record of the parts
abbrev histogram : List Bucket → ℕ → ℤ → Histogram
histogram bs n z = record { buckets = bs; count = n; sum = z }

made : (bs bs' : List Bucket) (n n' : ℕ) (z z' : ℤ) → bs ≡ bs' → n ≡ n' → z ≡ z' → histogram bs n z ≡ histogram bs' n' z'
made bs bs' n n' z z' e f g = rw (e, f, g) refl

-- what the code left
left : (c : goal.After-self-4-1) → histogram (with_items c.self.inside.buckets c.count_at.new.buckets).items c.in-Some.count (to_z w128 (of_z w128 (to_z w128 (of_z w128 c.self.inside.sum) +ℤ to_z w128 (of_z w128 c.from.result))))
    ≡ histogram (set c.self.inside.buckets.items c.index_of-index.result (one_more (get_or c.self.inside.buckets.items c.index_of-index.result endless))) (c.self.inside.count + 1) (c.self.inside.sum +ℤ c.args.value)
left c =
    let is = rw c.as_mut_slice.ensures.value at (c.count_at.ensures endless) in
    let long : length c.count_at.new.buckets ≡ vec_len c.self.inside.buckets = search rules in
    let fits : FitsSigned w64 c.millionths.result = search rules in
    let small : c.self.inside.count < 18446744073709551616 = search rules in
    made _ _ _ _ _ _ (with_items_is c.self.inside.buckets c.count_at.new.buckets long ∙ is) c.in-Some.ensures.1
    (added_is c.self.inside.sum c.args.value c.from.result c.millionths.result c.self.inside.count (c.self.invariant.low, c.self.invariant.high) fits c.from.ensures c.millionths.ensures.exact small)

here : (c : goal.After-self-4-1) → c.index_of-index.result ≡ index c.args.value c.self.inside.buckets.items
here c = rw (← c.self.view_is) at c.index_of-index.ensures

pub invariant_of-self : goal.invariant_of-self
invariant_of-self c =
    let fits : FitsSigned w64 c.millionths.result = search rules in
    let fits' : FitsSigned w64 c.args.value = subst (FitsSigned w64) c.millionths.ensures.exact fits in
    subst (IsOfSome c.self.inside.bounds.items) (sym (left c)) (more c.self.inside.bounds.items (histogram c.self.inside.buckets.items c.self.inside.count c.self.inside.sum) c.args.value c.index_of-index.result endless c.self.invariant (here c) fits')

pub returns-clause-counted : goal.returns-clause-counted
returns-clause-counted c bounds xs h =
    subst (IsCounts bounds (xs ++ c.args.value ∷ [])) (sym (left c))
    (observes bounds xs (histogram c.self.inside.buckets.items c.self.inside.count c.self.inside.sum) c.args.value c.index_of-index.result endless (subst (IsCounts bounds xs) (sym c.self.view_is) h) (here c))
