-- What histograms and their snapshots emit has no fault of its own.
use Rattle.std.proofs.Common.{ℕ, ℤ, ◌<◌, ◌^◌, Bool, List, [], ◌∷◌, Option, inl, refl, sym, subst}
use Rattle.std.specs.List.{AllByRecursion}
use Rattle.std.proofs.lemmas.List.{length-map}
use Rattle.fm_raw.specs.declared.bucket.bound.Bucket.{Bucket}
use Rattle.fm_encoder.specs.Points.{ExemplarValid, BucketsValid, values_in}
use Rattle.fm_encoder.specs.inside.Plain.{IsPlain}
use Rattle.fm_histogram.specs.Histogram.{Histogram, CountsTaken}
use Rattle.fm_histogram.specs.Shown.{empty_slots, point_of, gauge_point_of}
use Rattle.fm_histogram.proofs.SumLemmas.{counts_all}

no_exemplars : (buckets : List Bucket) → AllByRecursion ExemplarValid (empty_slots buckets)
no_exemplars [] = tt
no_exemplars (b ∷ buckets) = (inl refl, no_exemplars buckets)

-- fewer than 2^64 values without exemplars
pub buckets_valid : (buckets : List Bucket) → values_in buckets < 2 ^ 64 → BucketsValid buckets (empty_slots buckets)
buckets_valid buckets few = (length-map buckets _, few, no_exemplars buckets)

-- what counts some values counts fewer than 2^64
pub few_counted : (taken : ℤ → Bool) (s : Histogram) → CountsTaken taken s → values_in s.buckets < 2 ^ 64
few_counted taken s counts = let P : ℕ → Type 0 = λ n. n < 2 ^ 64 in subst P (sym (counts_all taken s counts)) counts.few

pub plain_point : (s : Histogram) (created : Option ℕ) → values_in s.buckets < 2 ^ 64 → IsPlain (point_of s created)
plain_point s created few = buckets_valid s.buckets few

pub plain_gauge_point : (s : Histogram) → values_in s.buckets < 2 ^ 64 → IsPlain (gauge_point_of s)
plain_gauge_point s few = buckets_valid s.buckets few
