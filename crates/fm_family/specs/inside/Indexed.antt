-- A member by its index.
use Rattle.std.specs.Prelude.{◌≡◌, ℕ, List, Some, slice_get}
use Rattle.std.specs.Map.{values_of}

-- the metric at this index
abbrev pub HoldsMetric : {L M : Type 0} → List (L × M) → ℕ → M → Type 0
HoldsMetric es index m = slice_get (values_of es) index ≡ Some m
