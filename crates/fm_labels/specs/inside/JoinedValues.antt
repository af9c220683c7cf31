-- What holds of the bytes in which label values are kept.
use Rattle.std.specs.Prelude.{◌≡◌, ◌≤◌, ℕ, List, [], ◌∷◌, length, take}
use Rattle.std.specs.List.{AllByRecursion}
use Rattle.std.specs.Str.{IsUtf8}
use Rattle.fm_grammar.specs.Exposition.{Text}
use Rattle.fm_labels.specs.LabelValues.{ended, joined, values_in, in_block}

-- the bytes are joined values, each of which is text
pub record AreJoined (bytes : Text) : Type 0 where
  pub is : joined (values_in bytes) ≡ bytes
  pub utf8 : AllByRecursion IsUtf8 (values_in bytes)

-- the bytes are one joined value
pub record IsOnlyValue (bytes : Text) : Type 0 where
  pub value : Text
  pub only : values_in bytes ≡ value ∷ []
  pub is : bytes ≡ ended value

-- the block begins with this text, and has zeros after it
pub record IsBlock (text block : Text) : Type 0 where
  pub fits : length text ≤ 64
  pub is : block ≡ in_block text

-- the first bytes of the block, so many, are a text, and the others are zeros
pub record AreInBlock (used : ℕ) (block : Text) : Type 0 where
  pub within : used ≤ 64
  pub whole : IsBlock (take used block) block
