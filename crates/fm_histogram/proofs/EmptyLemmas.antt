-- The histogram of no values.
use Rattle.std.proofs.Common.{◌≡◌, ℕ, ℤ, pos, List, [], ◌∷◌, ◌++◌, Option, Some, None, true, map, refl, ap, ◌∙◌}
use Rattle.fm_raw.specs.declared.bucket.bound.Bucket.{Bucket}
use Rattle.fm_raw.specs.declared.bucket.bound.Bound.TheVariants.{Finite, Inf}
use Rattle.fm_histogram.specs.Histogram.{Histogram, IsCounts, rises, buckets_above}

-- a bucket with no values
abbrev pub finite : ℤ → Bucket
finite b = record { upper_bound = Finite b; count = 0 }

-- the last bucket, with no values
abbrev pub endless : Bucket
endless = record { upper_bound = Inf; count = 0 }

-- the buckets of no values
buckets_of_none : (low : Option ℤ) (bounds : List ℤ) → map finite bounds ++ endless ∷ [] ≡ buckets_above low bounds []
buckets_of_none low [] = refl
buckets_of_none low (b ∷ bs) = ap (λ cs. finite b ∷ cs) (buckets_of_none (Some b) bs)

abbrev histogram : List Bucket → ℕ → ℤ → Histogram
histogram bs n z = record { buckets = bs; count = n; sum = z }

-- a histogram by its parts
same : (s : Histogram) (bs : List Bucket) → s.buckets ≡ bs → s.count ≡ 0 → s.sum ≡ pos 0 → s ≡ record { buckets = bs; count = 0; sum = pos 0 }
same s bs e f g =
    let h : histogram s.buckets s.count s.sum ≡ histogram bs 0 (pos 0) = rw (e, f, g) refl in h

-- the histogram of no values
pub of_none : (bounds : List ℤ) (s : Histogram) → rises None bounds ≡ true → s.buckets ≡ map finite bounds ++ endless ∷ [] → s.count ≡ 0 → s.sum ≡ pos 0 → IsCounts bounds [] s
of_none bounds s up buckets count sum =
    record { increasing = up; is = same s (buckets_above None bounds []) (buckets ∙ buckets_of_none None bounds) count sum }
