use Rattle.std.proofs.Common.{◌≡◌, ℕ, ◌≤◌, ℤ, pos, List, [], ◌∷◌, ◌++◌, None, true, map, take, length, refl, ap, ◌∙◌, arith, rules}
use Rattle.std.proofs.lemmas.Int.{ints}
use Rattle.std.proofs.lemmas.List.{take_all}
use Rattle.fm_raw.specs.declared.bucket.bound.Bucket.{Bucket}
use Rattle.fm_histogram.specs.Histogram.{IsCounts, rises}
use Rattle.fm_histogram.proofs.EmptyLemmas.{finite, endless, of_none}
use Rattle.fm_histogram.proofs.counts.Counts.new.Goals as goal

made : (rising : List ℤ) (n : ℕ) (before buckets : List Bucket) → rises None rising ≡ true → length rising ≤ n → before ≡ map finite (take n rising)
    → buckets ≡ before ++ endless ∷ [] → IsCounts rising [] (record { buckets = buckets; count = 0; sum = pos 0 })
made rising n before buckets up all was is =
    of_none rising _ up (is ∙ ap (λ bs. bs ++ endless ∷ []) (was ∙ ap (map finite) (take_all n rising all))) refl refl

pub invariant_of-result : goal.invariant_of-result
invariant_of-result c =
    let long : length c.args.rising.items ≤ c.loop-bound.bound-index = search rules in record {
      values = [];
      is = made _ _ _ _ c.requires long c.loop-bound.invariant.0 (c.push_reserved-2.ensures.items ∙ ap (λ b. c.loop-bound.buckets.items ++ b ∷ []) c.new-2.ensures);
      low = omega (arith, ints);
      high = omega (arith, ints);
    }

pub returns-clause-bounds : goal.returns-clause-bounds
returns-clause-bounds c =
    let long : length c.args.rising.items ≤ c.loop-bound.bound-index = search rules in
    made _ _ _ _ c.requires long c.loop-bound.invariant.0 (c.push_reserved-2.ensures.items ∙ ap (λ b. c.loop-bound.buckets.items ++ b ∷ []) c.new-2.ensures)
