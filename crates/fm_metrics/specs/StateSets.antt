-- The states of a state set. One of them is current.
use Rattle.std.specs.Prelude.{◌≡◌, ℕ, ◌<◌, ◌≤◌, ◌⊎◌, Bool, true, false, List, Some, map, length, slice_get}
use Rattle.fm_raw.specs.declared.error.MetricError.{MetricError}
use Rattle.fm_raw.specs.declared.error.MetricError.TheVariants.{Memory, UnknownState, TooManyStates}

module _ {T : Type 0} (eq : T → T → Bool) (all : List T) where
  -- some state equals `state`
  abbrev pub IsState : T → Type 0
  IsState state = (i : ℕ) × (x : T) × (slice_get all i ≡ Some x) × (eq x state ≡ true)

  -- no state equals `state`
  abbrev pub IsNoState : T → Type 0
  IsNoState state = (i : ℕ) (x : T) → slice_get all i ≡ Some x → eq x state ≡ false

  -- `i` is the index of a state that equals itself
  abbrev pub IsStateIndex : ℕ → Type 0
  IsStateIndex i = (x : T) × (slice_get all i ≡ Some x) × (eq x x ≡ true)

  -- `x` is one of the states, and equals itself
  abbrev pub IsVariant : T → Type 0
  IsVariant x = (i : ℕ) × (slice_get all i ≡ Some x) × (eq x x ≡ true)

  -- no two of the states are equal
  abbrev pub AreDifferent : Type 0
  AreDifferent = (i j : ℕ) (x y : T) → i < j → slice_get all i ≡ Some x → slice_get all j ≡ Some y → eq x y ≡ false

  -- each state's text, in order, with true if the state equals `current`
  abbrev pub states_at : (T → List ℕ) → T → List (List ℕ × Bool)
  states_at text current = map (λ x. (text x, eq x current)) all

  -- why no state set can be made of these states with the state `state`: the first test that fails
  abbrev pub IsRefusedAs : T → MetricError → Type 0
  IsRefusedAs state e =
      ((e ≡ TooManyStates) × (256 < length all))
      ⊎ (((e ≡ UnknownState) × (length all ≤ 256) × IsNoState state)
      ⊎ ((e ≡ Memory) × (length all ≤ 256) × IsState state))
