-- The members of a family: a list of pairs of a label set and a metric, of which no two have equal label sets.
use Rattle.std.specs.Prelude.{◌≡◌, ℕ, Bool, true, List, [], ◌∷◌, ◌++◌, take, Result, Ok, Err, MatchResult, ◌⊎◌, MatchOption, IsOkAnd}
use denote.Ref.{Bor}
use Rattle.std.specs.List.{IsDistinct}
use Rattle.std.specs.Fn.{Called, Mut}
use Rattle.std.specs.Map.{lookup, keys_of}
use Rattle.fm_raw.specs.declared.error.MetricError.{MetricError}
use Rattle.fm_raw.specs.declared.error.MetricError.TheVariants.{Memory}
use Rattle.fm_labels.specs.Labels.{EmittedLabel}
use Rattle.fm_encoder.specs.Points.{Point, Member}
use Rattle.fm_encoder.specs.Emits.{OffersOf}

-- each clone of a label set equals it
abbrev pub ClonesEqual : {L : Type 0} → (L → L → Type 0) → (L → L → Bool) → Type 0
ClonesEqual {L} is_clone eq = (x y : L) → is_clone x y → eq x y ≡ true

-- a look-up of a label set, which adds a pair if it is absent: for a metric that exists the result is as `tells` says,
-- and the list stays; else a pair of a clone of the label set, which equals it, and a metric that the factory promises was added
-- at the end and is the result, or the list is as it was, and the error is `Memory` or one that the factory promises
abbrev pub GetsOrAdds : {L M A : Type 0} → (L → L → Type 0) → (L → L → Bool) → (Result M MetricError → Type 0) → L → List (L × M) → List (L × M) → (A → M → Type 0) → Result A MetricError → Type 0
GetsOrAdds {L} {M} is_clone eq promises labels old new tells answer = MatchOption (lookup (eq labels) old)
    (MatchResult answer
    (λ a. (k : L) × (m : M) × is_clone labels k × (eq labels k ≡ true) × promises (Ok m) × (new ≡ old ++ (k, m) ∷ []) × tells a m)
    (λ e. (new ≡ old) × ((e ≡ Memory) ⊎ promises (Err e))))
    (λ m. (new ≡ old) × IsOkAnd answer (λ a. tells a m))

-- the reference shows the metric
abbrev pub ShowsMetric : {M : Type 0} → Bor M → M → Type 0
ShowsMetric r m = r.now ≡ m

-- the members of the pairs at the beginning of a list
abbrev pub OffersFirst : {L M : Type 0} → (L → List EmittedLabel) → (M → List Point → Type 0) → List (L × M) → List Member → Type 0
OffersFirst labels Points pairs members = (n : ℕ) × OffersOf labels Points (take n pairs) members

-- the members of some pairs with pairwise different label sets
abbrev pub OffersDifferent : {L M : Type 0} → (L → L → Bool) → (L → List EmittedLabel) → (M → List Point → Type 0) → List Member → Type 0
OffersDifferent {L} {M} eq labels Points members = (pairs : List (L × M)) × IsDistinct eq (keys_of pairs) × OffersOf labels Points pairs members

-- the labels or the metric may return an error of their own
abbrev pub MayFault : {L M : Type 0} → (L → Type 0) → (M → Type 0) → L × M → Type 0
MayFault labels metric pair = labels pair.0 ⊎ metric pair.1

-- a call of a closure at references to the label set and to the metric of a pair may return this answer, and leave the closure as `f'`
pub record CalledAtMember {F L M : Type 0} (g : Mut F (Bor L × (Bor M × Unit {0})) Bool) (f : F) (pair : L × M) (answer : Bool) (f' : F) : Type 0 where
  pub labels : Bor L
  pub metric : Bor M
  pub shows : (labels.now ≡ pair.0) × (metric.now ≡ pair.1)
  pub called : Called g f (labels, (metric, tt)) answer f'
