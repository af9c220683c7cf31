-- The members of a family by label names in two lists: those that a scrape may read, and young ones, which were made while one
-- did.
use Rattle.std.specs.Prelude.{◌≡◌, ◌<◌, ◌+◌, ℕ, Bool, List, [], ◌∷◌, ◌++◌, length, is_some, if◌then◌else◌}
use Rattle.std.specs.List.{items_where_true}
use Rattle.std.specs.List.Retain.{ReturnsInTurn}
use Rattle.std.specs.Map.{lookup}
use Rattle.fm_grammar.specs.Exposition.{Text}
use Rattle.fm_labels.specs.LabelValues.{values_eq}
use Rattle.fm_family.specs.VecMembers.{VecState, AreVecMembers}

module _ {M : Type 0} where
  -- the members with this one as the last, if there is none of its values
  abbrev pub with_member : List (List Text × M) → List Text × M → List (List Text × M)
  with_member entries e = if is_some (lookup (values_eq e.0) entries) then entries else entries ++ e ∷ []

  -- the members of a family, where the young ones are looked up after the others
  abbrev pub joined : List (List Text × M) → List (List Text × M) → List (List Text × M)
  joined entries [] = entries
  joined entries (e ∷ es) = joined (with_member entries e) es

  -- the young members can go after the others in one family
  pub record AreBeside (others young : VecState M) : Type 0 where
    pub count : young.count ≡ others.count
    pub members : AreVecMembers (record others { entries = others.entries ++ young.entries })

  -- a member with so many values can be added to the young ones
  pub record HasRoomBeside (others young : VecState M) (count : ℕ) : Type 0 where
    pub young_count : young.count ≡ count
    pub others_count : others.count ≡ count
    pub limit : young.limit ≡ others.limit
    pub room : length others.entries + length young.entries < others.limit

-- a test that was p answered at each of xs in turn, which left it as q, and ys has those at which it gave `true`
abbrev pub FiltersTo : {X P : Type 0} → (P → X → Bool → P → Type 0) → P → P → List X → List X → Type 0
FiltersTo R p q xs ys = (bs : List Bool) × (length bs ≡ length xs) × ReturnsInTurn R p bs xs q × (ys ≡ items_where_true bs xs)
