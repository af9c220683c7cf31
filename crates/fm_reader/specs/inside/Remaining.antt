-- The lines of what is left of a text.
use Rattle.std.specs.Prelude.{◌≡◌, List, [], ◌∷◌, Option, Some, None}
use Rattle.std.specs.Borrow.{Bor}
use Rattle.fm_grammar.specs.Exposition.{Text}
use Rattle.fm_reader.specs.Differences.{lines_of}

-- none once the last line was taken
abbrev pub lines_left : Option (Bor Text) → List Text
lines_left None = []
lines_left (Some text) = lines_of text.now

-- the first line, if there is one, and what is left after it
abbrev pub IsLineTaken : Option (Bor Text) → Option (Bor Text) × Option (Bor Text) → Type 0
IsLineTaken rest (None, after) = lines_left rest ≡ []
IsLineTaken rest (Some line, after) = lines_left rest ≡ line.now ∷ lines_left after
