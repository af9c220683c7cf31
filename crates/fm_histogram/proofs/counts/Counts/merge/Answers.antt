use Rattle.std.proofs.Common.{◌≡◌, ℕ, ◌+◌, ◌<◌, ℤ, ◌+ℤ◌, List, ◌++◌, None, length, get_or, refl, ap, sym, subst, ◌∙◌, arith, rules, vec_len, to_z, of_z}
use Rattle.std.specs.Int.{w128}
use Rattle.std.specs.Vec.{with_items}
use Rattle.std.proofs.lemmas.List.{with_items_is}
use Rattle.fm_raw.specs.declared.bucket.bound.Bucket.{Bucket}
use Rattle.fm_histogram.specs.Histogram.{Histogram, IsCounts, upper_bounds, merged, merged_buckets}
use Rattle.fm_histogram.specs.inside.Counting.{IsOfSome}
use Rattle.fm_histogram.proofs.MergeLemmas.{merges, bounds_same, lengths_same}
use Rattle.fm_histogram.proofs.CountLemmas.{count_within, sums_fit, sums_low, sums_high}
use Rattle.fm_histogram.proofs.counts.Counts.merge.Goals as goal

-- bucket by bucket the counts fit if all do
fit : (bs bs' : List ℤ) (s t : Histogram) (n : ℕ) (i : ℕ) (d e : Bucket) → IsOfSome bs s → IsOfSome bs' t → upper_bounds s.buckets ≡ upper_bounds t.buckets → s.count + t.count < n → i < length t.buckets
    → (get_or s.buckets i d).count + (get_or t.buckets i e).count < n
fit bs bs' s t n i d e some some' same small h =
    let l = lengths_same s.buckets t.buckets same in
    let h' : i < length s.buckets = omega arith in
    omega (arith, count_within bs s i d some h', count_within bs' t i e some' h)

-- two snapshots of equal bounds, merged
merges_some : (bs bs' : List ℤ) (s t : Histogram) → IsOfSome bs s → IsOfSome bs' t → upper_bounds s.buckets ≡ upper_bounds t.buckets → IsOfSome bs (merged s t)
merges_some bs bs' s t some some' same =
    let names : bs ≡ bs' = bounds_same None None bs bs' some.values some'.values (sym (ap (λ (z : Histogram). upper_bounds z.buckets) some.is.is) ∙ (same ∙ ap (λ (z : Histogram). upper_bounds z.buckets) some'.is.is)) in
    record {
      values = some.values ++ some'.values;
      is = merges bs some.values some'.values s t some.is (subst (λ l. IsCounts l some'.values t) (sym names) some'.is);
      low = sums_low s.sum t.sum s.count t.count some.low some'.low;
      high = sums_high s.sum t.sum s.count t.count some.high some'.high;
    }

-- the record of the parts
abbrev histogram : List Bucket → ℕ → ℤ → Histogram
histogram bs n z = record { buckets = bs; count = n; sum = z }

made : (s t : Histogram) (bs : List Bucket) (n : ℕ) (z : ℤ) → bs ≡ merged_buckets s.buckets t.buckets → n ≡ s.count + t.count → z ≡ s.sum +ℤ t.sum → histogram bs n z ≡ merged s t
made s t bs n z e f g = rw (e, f, g) refl

pub add_counts-requires-clause-fits : goal.add_counts-requires-clause-fits
add_counts-requires-clause-fits c i d e h =
    let same : upper_bounds c.self.inside.buckets.items ≡ upper_bounds c.other.inside.buckets.items = search rules in
    let h' : i < length c.other.inside.buckets.items = search rules in
    rw (c.as_mut_slice.ensures.value, c.as_slice-3.ensures.value) (fit _ _ (histogram c.self.inside.buckets.items c.self.inside.count c.self.inside.sum) (histogram c.other.inside.buckets.items c.other.inside.count c.other.inside.sum) 18446744073709551616 i d e c.self.invariant c.other.invariant same c.in-Some.ensures.0 h')

-- what the code left
left : (c : goal.After-self-5-1) → histogram (with_items c.self.inside.buckets c.add_counts.new.buckets).items c.in-Some.count (to_z w128 (of_z w128 (to_z w128 (of_z w128 c.self.inside.sum) +ℤ to_z w128 (of_z w128 c.other.inside.sum)))) ≡ merged (histogram c.self.inside.buckets.items c.self.inside.count c.self.inside.sum) (histogram c.other.inside.buckets.items c.other.inside.count c.other.inside.sum)
left c =
    let long : length c.add_counts.new.buckets ≡ vec_len c.self.inside.buckets = search rules in
    let items = with_items_is c.self.inside.buckets c.add_counts.new.buckets long ∙ rw (c.as_mut_slice.ensures.value, c.as_slice-3.ensures.value) at c.add_counts.ensures in
    let a = c.self.invariant in let b = c.other.invariant in
    made (histogram c.self.inside.buckets.items c.self.inside.count c.self.inside.sum) (histogram c.other.inside.buckets.items c.other.inside.count c.other.inside.sum) _ _ _
    items c.in-Some.ensures.1 (sums_fit c.self.inside.sum c.other.inside.sum c.self.inside.count c.other.inside.count a.low a.high b.low b.high c.in-Some.ensures.0)

pub invariant_of-self : goal.invariant_of-self
invariant_of-self c =
    let same : upper_bounds c.self.inside.buckets.items ≡ upper_bounds c.other.inside.buckets.items = search rules in
    subst (IsOfSome c.self.inside.bounds.items) (sym (left c)) (merges_some _ _ _ _ c.self.invariant c.other.invariant same)

-- the same, of what contracts see
settled : (r s s' t t' : Histogram) → r ≡ merged s t → s ≡ s' → t ≡ t' → r ≡ merged s' t'
settled r s s' t t' e f g = e ∙ (ap (λ z. merged z t) f ∙ ap (λ z. merged s' z) g)

pub returns-clause-merged : goal.returns-clause-merged
returns-clause-merged c =
    settled _ (histogram c.self.inside.buckets.items c.self.inside.count c.self.inside.sum) c.args.self.now (histogram c.other.inside.buckets.items c.other.inside.count c.other.inside.sum) c.args.other.now (left c) c.self.view_is c.other.view_is
