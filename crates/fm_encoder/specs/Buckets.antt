-- The slots for exemplars of a point with buckets.
use Rattle.std.specs.Prelude.{List, [], map, Contains, Option, MatchOption}
use Rattle.std.specs.Option.{option_map_or}
use Rattle.std.specs.Borrow.{Bor}
use Rattle.fm_encoder.specs.Points.{EmittedExemplar}

-- the exemplars of each slot
abbrev pub slots_of : {E : Type 0} → (E → List EmittedExemplar) → List (Option (Bor E)) → List (List EmittedExemplar)
slots_of exemplars = map (λ slot. option_map_or (λ e. exemplars e.now) slot [])

-- the source of some slot may return an error of its own
abbrev pub MaySlotsFault : {E : Type 0} → (E → Type 0) → List (Option (Bor E)) → Type 0
MaySlotsFault may_fault slots = (slot : _) × Contains slots slot × MatchOption slot ⊥ (λ e. may_fault e.now)
