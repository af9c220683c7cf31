use Rattle.std.proofs.Common.{◌≡◌, ◌+◌, ℕ, zero, suc, pos, List, [], ◌∷◌, ◌++◌, take, Some, slice_get, sym, ap, subst, append_assoc, arith}
use Rattle.fm_grammar.specs.Exposition.{Label, Sample, Whole}
use Rattle.fm_raw.specs.declared.bucket.bound.Bucket.{Bucket}
use Rattle.fm_encoder.specs.Points.{EmittedExemplar, Setting, values_in, bucket_sample, bucket_samples}
use Rattle.fm_laws.proofs.counts_add_up.Goals as goal

module _ (setting : Setting) (common : List Label) where
  shown : (before buckets : List Bucket) (slots : List (List EmittedExemplar)) (i : ℕ) (sample : Sample) → slice_get (bucket_samples setting common before buckets slots) i ≡ Some sample → sample.value ≡ Whole (pos (values_in (before ++ take (suc i) buckets)))
  shown before [] slots i sample e = absurd cc
  shown before (b ∷ buckets) [] i sample e = absurd cc
  shown before (b ∷ buckets) (x ∷ slots) zero sample e =
      let same : bucket_sample setting common before b x ≡ sample = cc in
      ap (λ (s : Sample). s.value) (sym same)
  shown before (b ∷ buckets) (x ∷ slots) (suc i) sample e =
      subst (λ (front : List Bucket). sample.value ≡ Whole (pos (values_in front))) (append_assoc before (b ∷ []) (take (suc i) buckets)) (shown (before ++ b ∷ []) buckets slots i sample e)

pub returns : goal.returns
returns c setting common buckets slots i sample e =
    let next : suc i ≡ i + 1 = omega arith in
    subst (λ (n : ℕ). sample.value ≡ Whole (pos (values_in (take n buckets)))) next (shown setting common [] buckets slots i sample e)
