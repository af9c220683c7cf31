-- What was appended to an output.
use Rattle.std.specs.Prelude.{◌≡◌, ℕ, List, ◌++◌, drop, min, length, ◌-◌, ◌^◌}
use Rattle.std.specs.List.{flat_map}
use Rattle.fm_grammar.specs.Exposition.{Text}

-- this was appended to the text
pub record Grown (old new text : List ℕ) : Type 0 where
  pub bytes : new ≡ old ++ text

-- whatever text an output represented, it now represents that text with this appended
pub record Grows (old new : Text → Type 0) (text : Text) : Type 0 where
  pub grows : (front : Text) → old front → new (front ++ text)

-- within a loop over items: the texts from the i-th on are left
pub record IsLeft {X : Type 0} (f : X → Text) (xs : List X) (i : ℕ) (old now : Text → Type 0) : Type 0 where
  pub front : Text
  pub grown : Grows old now front
  pub is : front ++ flat_map f (drop i xs) ≡ flat_map f xs

-- of the whole text all but the rest has been rendered
pub record IsLeftOf (rest whole : Text) (old now : Text → Type 0) : Type 0 where
  pub front : Text
  pub grown : Grows old now front
  pub is : front ++ rest ≡ whole

-- the length of the text, or the greatest `usize` if the length exceeds it
abbrev pub size_of : Text → ℕ
size_of text = min (length text) (2 ^ 64 - 1)
