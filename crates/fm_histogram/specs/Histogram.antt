-- The histogram of a list of values: how many of them are in each interval between bounds, how many there are, and their sum.
use Rattle.std.specs.Prelude.{ℕ, ◌+◌, Bool, true, not, ◌&&◌, ◌||◌, ◌≡◌, ℤ, pos, ◌+ℤ◌, ◌<◌, ◌^◌, List, [], ◌∷◌, Option, Some, None, length, count_by, filter, map, All, Contains, ◌↔◌, int_lt, suc, if◌then◌else◌}
use Rattle.fm_raw.specs.BoundTests.{lies_below}
use Rattle.fm_raw.specs.declared.bucket.bound.Bound.{Bound}
use Rattle.fm_raw.specs.declared.bucket.bound.Bound.TheVariants.{Finite, Inf}
use Rattle.fm_raw.specs.declared.bucket.bound.Bucket.{Bucket}

-- x is above the bound before. The first interval has none
abbrev pub is_above : Option ℤ → ℤ → Bool
is_above None x = true
is_above (Some low) x = int_lt low x

-- x is above the bound before, and at most this bound
abbrev pub is_between : Option ℤ → ℤ → ℤ → Bool
is_between low bound x = is_above low x && not (int_lt bound x)

-- for each bound the number of values at most it and above the bound before, and then the number of values above the last
abbrev pub buckets_above : Option ℤ → List ℤ → List ℤ → List Bucket
buckets_above low [] xs = record { upper_bound = Inf; count = count_by (is_above low) xs } ∷ []
buckets_above low (b ∷ bs) xs = record { upper_bound = Finite b; count = count_by (is_between low b) xs } ∷ buckets_above (Some b) bs xs

-- the sum of the values
abbrev pub total : List ℤ → ℤ
total [] = pos 0
total (x ∷ xs) = x +ℤ total xs

-- each bound is above the one before
abbrev pub rises : Option ℤ → List ℤ → Bool
rises low [] = true
rises low (b ∷ bs) = is_above low b && rises (Some b) bs

-- what contracts see of a snapshot
pub record Histogram : Type 0 where
  pub buckets : List Bucket
  pub count : ℕ
  pub sum : ℤ

-- the histogram of a list of values
abbrev pub histogram_of : List ℤ → List ℤ → Histogram
histogram_of bounds xs = record { buckets = buckets_above None bounds xs; count = length xs; sum = total xs }

-- the counts are those of the values, by bounds that rise
pub record IsCounts (bounds xs : List ℤ) (s : Histogram) : Type 0 where
  pub increasing : rises None bounds ≡ true
  pub is : s ≡ histogram_of bounds xs

-- a histogram takes no negative value, and a gauge histogram takes all
abbrev pub takes : Bool → ℤ → Bool
takes negative x = negative || not (int_lt x (pos 0))

abbrev pub is_taken : ℤ → Bool
is_taken x = not (int_lt x (pos 0))

abbrev pub takes_all : ℤ → Bool
takes_all x = true

-- the snapshot is the histogram of those values that are taken
abbrev pub IsHistogram : (ℤ → Bool) → List ℤ → List ℤ → Histogram → Type 0
IsHistogram taken bounds xs s = IsCounts bounds (filter taken xs) s

-- it counts some values by bounds that rise: fewer than 2^64 values, which are all taken, as the bounds are
pub record CountsTaken (taken : ℤ → Bool) (s : Histogram) : Type 0 where
  pub bounds : List ℤ
  pub values : List ℤ
  pub is : IsCounts bounds values s
  pub bounds_taken : All (λ x. taken x ≡ true) bounds
  pub values_taken : All (λ x. taken x ≡ true) values
  pub few : s.count < 2 ^ 64

-- how many of the rising bounds are below x: the index of its bucket
abbrev pub index_among : ℤ → List ℤ → ℕ
index_among x [] = 0
index_among x (b ∷ bs) = if int_lt b x then suc (index_among x bs) else 0

-- the index of the bucket that takes x: how many have a bound below it
abbrev pub index : ℤ → List Bucket → ℕ
index x [] = 0
index x (b ∷ bs) = if lies_below b.upper_bound x then suc (index x bs) else 0

-- the given bounds that are taken, each once and in order
pub record IsBoundsOf (taken : ℤ → Bool) (given bounds : List ℤ) : Type 0 where
  pub increasing : rises None bounds ≡ true
  pub members : (x : ℤ) → Contains bounds x ↔ (Contains given x × (taken x ≡ true))

-- the bounds of the buckets
abbrev pub upper_bounds : List Bucket → List Bound
upper_bounds bs = map (λ (b : Bucket). b.upper_bound) bs

-- bucket by bucket, what both count
abbrev pub merged_buckets : List Bucket → List Bucket → List Bucket
merged_buckets (a ∷ as') (b ∷ bs) = record { upper_bound = a.upper_bound; count = a.count + b.count } ∷ merged_buckets as' bs
merged_buckets (a ∷ as') [] = []
merged_buckets [] bs = []

-- what two histograms of equal bounds count together
abbrev pub merged : Histogram → Histogram → Histogram
merged s t = record { buckets = merged_buckets s.buckets t.buckets; count = s.count + t.count; sum = s.sum +ℤ t.sum }
