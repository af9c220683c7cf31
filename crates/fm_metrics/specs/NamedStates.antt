-- State sets whose states are texts. One of them is current.
use Rattle.std.specs.Prelude.{◌≡◌, ◌≢◌, ◌<◌, ◌≤◌, ◌⊎◌, Bool, List, [], ◌∷◌, ◌++◌, map, length, fold, count_by, Contains, if◌then◌else◌}
use Rattle.std.specs.List.{list_any}
use Rattle.std.specs.Str.{bytes_eq}
use Rattle.fm_grammar.specs.Exposition.{Text}
use Rattle.fm_raw.specs.declared.error.MetricError.{MetricError}
use Rattle.fm_raw.specs.declared.error.MetricError.TheVariants.{Memory, UnknownState, TooManyStates}

-- the texts, with this one at the end unless it is among them
abbrev pub add_once : List Text → Text → List Text
add_once texts text = if list_any (bytes_eq text) texts then texts else texts ++ text ∷ []

-- each of the texts once, in the order in which they come first
abbrev pub each_once : List Text → List Text
each_once texts = fold add_once [] texts

-- a state set can be made of these names
abbrev pub CanName : List Text → Type 0
CanName names = (names ≢ []) × (length (each_once names) ≤ 256)

-- why no state set can be made of these names: the first test that fails
abbrev pub IsNotNamedAs : List Text → MetricError → Type 0
IsNotNamedAs names e =
    ((e ≡ UnknownState) × (names ≡ []))
    ⊎ (((e ≡ TooManyStates) × (256 < length (each_once names)))
    ⊎ ((e ≡ Memory) × CanName names))

-- each name, in order, with true if it is the current one
abbrev pub named_states : List Text → Text → List (Text × Bool)
named_states names current = map (λ name. (name, bytes_eq name current)) names

-- what a state set with these names shows: each of them, in order, and true at one alone, which is current
pub record ShowsOne (names : List Text) (states : List (Text × Bool)) : Type 0 where
  pub current : Text
  pub known : Contains names current
  pub each : states ≡ named_states names current
  pub one : count_by (λ state. state.1) states ≡ 1
