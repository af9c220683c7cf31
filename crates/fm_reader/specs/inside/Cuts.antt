-- Where a text is cut.
use Rattle.std.specs.Prelude.{◌≡◌, ◌≢◌, ℕ, ◌<◌, Bool, ◌==◌, length, get_or, ◌∷◌, ◌++◌, Option, Some, None}
use Rattle.std.specs.Borrow.{Bor}
use Rattle.fm_grammar.specs.Exposition.{Text, Label}
use Rattle.fm_grammar.specs.Names.{IsLabelName}
use Rattle.fm_grammar.specs.Spelling.{label_text}

abbrev pub is_feed : ℕ → Bool
is_feed x = x == 10

-- no byte of the text is this one
abbrev pub Lacks : ℕ → Text → Type 0
Lacks byte text = (i : ℕ) → i < length text → get_or text i 0 ≢ byte

-- the first line and the text after its line feed, or that there is no line feed
abbrev pub IsLineCut : Text → Option (Bor Text × Bor Text) → Type 0
IsLineCut text None = Lacks 10 text
IsLineCut text (Some (front, after)) = (text ≡ front.now ++ (10 ∷ after.now)) × Lacks 10 front.now

-- a label's name and the text after its equals sign, or that the text begins with no label
abbrev pub IsNameCut : Text → Option (Bor Text × Bor Text) → Type 0
IsNameCut text None = (label : Label) (rest : Text) → IsLabelName label.name → text ≢ label_text label ++ rest
IsNameCut text (Some (name, after)) = IsLabelName name.now × ((text ≡ name.now ++ (61 ∷ after.now)) × Lacks 61 name.now)
