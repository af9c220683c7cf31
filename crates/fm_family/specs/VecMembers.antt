-- The members of a family whose label names are declared: pairs of the values of their labels and a metric.
use Rattle.std.specs.Prelude.{◌≡◌, ◌<◌, ◌≤◌, ℕ, Bool, true, false, List, [], ◌∷◌, ◌++◌, length, Result, Ok, Err, MatchResult, ◌⊎◌, MatchOption, IsOkAnd}
use Rattle.std.specs.List.{AllByRecursion, IsDistinct}
use Rattle.std.specs.Map.{lookup, keys_of}
use Rattle.fm_raw.specs.declared.error.MetricError.{MetricError}
use Rattle.fm_raw.specs.declared.error.MetricError.TheVariants.{Memory, TooManyMembers}
use Rattle.fm_grammar.specs.Exposition.{Text}
use Rattle.fm_grammar.specs.LabelPairs.{labels_with}
use Rattle.fm_labels.specs.Labels.{EmittedLabel, emitted_again}
use Rattle.fm_labels.specs.LabelValues.{values_eq}
use Rattle.fm_encoder.specs.Points.{Point, Member}
use Rattle.fm_encoder.specs.Emits.{OffersOf}

-- how many values each member has, how many members there may be, and the members in order
pub record VecState (M : Type 0) : Type 0 where
  pub count : ℕ
  pub limit : ℕ
  pub entries : List (List Text × M)

-- the labels with these names and these values, as they are emitted
abbrev pub named_labels : List Text → List Text → List EmittedLabel
named_labels names values = emitted_again (labels_with names values)

-- Members with just these label names, in order, and some values: no two of them have the same values. Each has a point that a metric of
-- the family's type may offer.
abbrev pub OffersNamed : {M : Type 0} → List Text → (M → List Point → Type 0) → List Member → Type 0
OffersNamed {M} names Points members =
    (pairs : List (List Text × M)) × IsDistinct values_eq (keys_of pairs) × AllByRecursion (λ pair. length pair.0 ≡ length names) pairs
    × OffersOf (named_labels names) Points pairs members

-- no values have a fault
abbrev pub NeverFaults : List Text → Type 0
NeverFaults _ = ⊥

-- there are more or fewer values than names
abbrev pub HasOtherCount : {V : Type 0} → List Text → List V → Type 0
HasOtherCount names values = ¬ (length values ≡ length names)

-- A metric is added under these values as the last member, and the result is true; or there is a member of these values, all stay as they are, and the
-- result is false. At an error all stay as they are, and there is no memory, or there are as many members as the limit allows.
abbrev pub AddsNew : {M : Type 0} → ℕ → List Text → M → List (List Text × M) → List (List Text × M) → Result Bool MetricError → Type 0
AddsNew {M} limit values metric old new result = MatchOption (lookup (values_eq values) old)
    (MatchResult result
    (λ added. (added ≡ true) × (new ≡ old ++ (values, metric) ∷ []))
    (λ e. (new ≡ old) × ((e ≡ Memory) ⊎ ((e ≡ TooManyMembers) × (limit ≤ length old)))))
    (λ m. (new ≡ old) × (result ≡ Ok false))

-- A look-up of values, which adds a member if there is none. If there is one, the result tells it, and the list stays. Else a metric that the
-- factory promises was added as the last under these values, which the result tells; or the list is as it was, and the error is `Memory`,
-- one that the factory promises, or `TooManyMembers` where there are as many members as the limit allows.
abbrev pub FindsOrAdds : {M A : Type 0} → (Result M MetricError → Type 0) → ℕ → List Text → List (List Text × M) → List (List Text × M) → (A → M → Type 0) → Result A MetricError → Type 0
FindsOrAdds {M} promises limit values old new tells answer = MatchOption (lookup (values_eq values) old)
    (MatchResult answer
    (λ a. (m : M) × promises (Ok m) × (length old < limit) × (new ≡ old ++ (values, m) ∷ []) × tells a m)
    (λ e. (new ≡ old) × ((e ≡ Memory) ⊎ (((e ≡ TooManyMembers) × (limit ≤ length old)) ⊎ promises (Err e)))))
    (λ m. (new ≡ old) × IsOkAnd answer (λ a. tells a m))

-- no two members have the same values, each has as many as the family says, and there are no more members than the limit allows
pub record AreVecMembers {M : Type 0} (members : VecState M) : Type 0 where
  pub different : IsDistinct values_eq (keys_of members.entries)
  pub values : AllByRecursion (λ entry. length entry.0 ≡ members.count) members.entries
  pub within : length members.entries ≤ members.limit
