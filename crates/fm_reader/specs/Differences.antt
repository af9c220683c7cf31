-- Where two texts first differ, line by line.
use Rattle.std.specs.Prelude.{◌≡◌, ◌≢◌, ℕ, ◌+◌, ◌==◌, List, take, slice_get}
use Rattle.std.specs.List.{slice_split}
use Rattle.std.specs.Option.{option_copied}
use Rattle.fm_grammar.specs.Exposition.{Text}
use Rattle.fm_reader.specs.declared.difference.Difference.{Difference}

-- the lines of a text: its parts between line feeds. After a line feed at its end comes an empty last one.
abbrev pub lines_of : Text → List Text
lines_of text = slice_split (λ byte. byte == 10) text

-- So many lines are the same in both texts, and the next one isn't: each text shows its own, or none if it has no more.
pub record IsFirstDifference (left right : Text) (difference : Difference) : Type 0 where
  pub same_lines : ℕ
  pub number : difference.line ≡ same_lines + 1
  pub same : take same_lines (lines_of left) ≡ take same_lines (lines_of right)
  pub left_line : option_copied difference.left ≡ slice_get (lines_of left) same_lines
  pub right_line : option_copied difference.right ≡ slice_get (lines_of right) same_lines
  pub differ : option_copied difference.left ≢ option_copied difference.right
