-- The names of the families so far, and the set of them.
use Rattle.std.specs.Prelude.{◌≡◌, ◌≢◌, Bool, true, false, List, [], ◌∷◌, ◌++◌, map, Option, Some, None}
use Rattle.std.specs.List.{AllByRecursion}
use Rattle.std.specs.Borrow.{Bor}
use Rattle.std.specs.Ordering.{nat_cmp}
use Rattle.std.specs.Cmp.Lexicographic.{slice_cmp}
use Rattle.std.specs.BTreeSet.{BTreeSet, contains_by}
use Rattle.fm_grammar.specs.Exposition.{Text, Family}
use Rattle.fm_grammar.specs.declared.MetricType.{MetricType}
use Rattle.fm_grammar.specs.inside.Lines.{State, Open, Headed, Ended, closed}
use Rattle.fm_reader.specs.inside.Steps.{FoundNewType}

abbrev pub names_of : List Family → List Text
names_of families = map (λ family. family.name) families

-- the names on the type lines so far
abbrev pub state_names : State → List Text
state_names (Open finished current) = names_of (closed finished current)
state_names (Headed finished name metric_type) = names_of finished ++ (name ∷ [])
state_names (Ended families) = names_of families

-- the name is none of these
abbrev pub IsFresh : Text → List Text → Type 0
IsFresh name names = AllByRecursion (λ other. other ≢ name) names

-- the set has the name
abbrev pub has : BTreeSet (Bor Text) → Text → Bool
has set name = contains_by (λ key. slice_cmp nat_cmp name key.now) set

-- the set has these names and no others
abbrev pub HasNames : BTreeSet (Bor Text) → List Text → Type 0
HasNames set names = (name : Text) → (has set name ≡ false → IsFresh name names) × (has set name ≡ true → IsFresh name names → ⊥)

-- the set contains this name and those before, and the name was new or not
abbrev pub IsNoted : BTreeSet (Bor Text) → Text → Bool → BTreeSet (Bor Text) → Type 0
IsNoted before name true closing = (names : List Text) → HasNames before names → IsFresh name names × HasNames closing (names ++ (name ∷ []))
IsNoted before name false closing = (names : List Text) → HasNames before names → (IsFresh name names → ⊥) × HasNames closing names

-- the names with the one that was found
abbrev pub with_found : List Text → Option (Text × MetricType) → List Text
with_found names None = names
with_found names (Some (name, metric_type)) = names ++ (name ∷ [])

-- if the set has the families' names: a new name and its type were found, and the name was added
abbrev pub FoundNoted : BTreeSet (Bor Text) → Text → Option (Text × MetricType) → BTreeSet (Bor Text) → Type 0
FoundNoted before line found closing = (families : List Family) → HasNames before (names_of families) → FoundNewType families line found × HasNames closing (with_found (names_of families) found)
