-- One value more in a list of counts.
use Rattle.std.specs.Prelude.{ℕ, ◌+◌, ℤ, pos, neg_ℤ, ◌≤ℤ◌, ◌*◌, ◌^◌, List, [], ◌∷◌, int_lt, suc, if◌then◌else◌}
use Rattle.fm_raw.specs.declared.bucket.bound.Bucket.{Bucket}
use Rattle.fm_histogram.specs.Histogram.{Histogram, IsCounts}

-- what counts by these bounds are: the histogram of some values of 64 bits
pub record IsOfSome (bounds : List ℤ) (s : Histogram) : Type 0 where
  pub values : List ℤ
  pub is : IsCounts bounds values s
  pub low : neg_ℤ (pos (2 ^ 63 * s.count)) ≤ℤ s.sum
  pub high : s.sum ≤ℤ pos (2 ^ 63 * s.count)

-- a bucket with one value more
abbrev pub one_more : Bucket → Bucket
one_more b = record { upper_bound = b.upper_bound; count = b.count + 1 }

-- a bound inserted in order, unless it is there
abbrev pub inserted : ℤ → List ℤ → List ℤ
inserted x [] = x ∷ []
inserted x (b ∷ bs) = if int_lt b x then b ∷ inserted x bs else (if int_lt x b then x ∷ b ∷ bs else b ∷ bs)
