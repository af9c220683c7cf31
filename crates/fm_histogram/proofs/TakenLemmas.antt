-- Merged histograms of values that are taken, by bounds that are.
use Rattle.std.proofs.Common.{◌≡◌, ◌<◌, ◌^◌, Bool, true, ℤ, ◌++◌, None, Result, Ok, Err, sym, subst, ap, ◌∙◌}
use Rattle.std.specs.Prelude.{OnOk, OnErr}
use Rattle.std.proofs.lemmas.List.Elements.{All-append}
use Rattle.fm_raw.specs.declared.error.MetricError.{MetricError}
use Rattle.fm_histogram.specs.Histogram.{Histogram, IsCounts, CountsTaken, upper_bounds, merged}
use Rattle.fm_histogram.proofs.MergeLemmas.{merges, bounds_same}

-- two histograms of equal bounds, merged
both_taken : (p : ℤ → Bool) (s t u : Histogram) → CountsTaken p s → CountsTaken p t → upper_bounds s.buckets ≡ upper_bounds t.buckets → u ≡ merged s t → u.count < 2 ^ 64 → CountsTaken p u
both_taken p s t u some some' same is few =
    let names : some.bounds ≡ some'.bounds = bounds_same None None some.bounds some'.bounds some.values some'.values (sym (ap (λ (z : Histogram). upper_bounds z.buckets) some.is.is) ∙ (same ∙ ap (λ (z : Histogram). upper_bounds z.buckets) some'.is.is)) in
    record {
      bounds = some.bounds;
      values = some.values ++ some'.values;
      is = rw is (merges some.bounds some.values some'.values s t some.is (subst (λ bs. IsCounts bs some'.values t) (sym names) some'.is));
      bounds_taken = some.bounds_taken;
      values_taken = All-append (λ x. p x ≡ true) some.values some'.values some.values_taken some'.values_taken;
      few = few;
    }

-- the same if they are merged, and else nothing new
pub merged_taken : (p : ℤ → Bool) (s t u : Histogram) (r : Result (Unit {0}) MetricError) → CountsTaken p s → CountsTaken p t
    → OnOk r (upper_bounds s.buckets ≡ upper_bounds t.buckets) → OnOk r (u ≡ merged s t) → OnOk r (u.count < 2 ^ 64) → OnErr r (u ≡ s) → CountsTaken p u
merged_taken p s t u (Ok v) some some' same is few kept = both_taken p s t u some some' same is few
merged_taken p s t u (Err e) some some' same is few kept = subst (CountsTaken p) (sym kept) some
