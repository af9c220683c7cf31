-- A text that is written piece by piece.
use Rattle.std.specs.Prelude.{◌≡◌, ◌++◌, Option}
use Rattle.std.specs.Io.KnownBytes.{Appends}
use Rattle.fm_grammar.specs.Exposition.{Text}

-- the whole text was appended, except for the rest
pub record AppendsAllBut (rest : Text) (old new : Option Text) (whole : Text) : Type 0 where
  pub front : Text
  pub appended : Appends old new front
  pub is : front ++ rest ≡ whole
