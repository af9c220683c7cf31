-- Texts that are written without an escape.
use Rattle.std.specs.Prelude.{◌≡◌, ℕ, ◌≤◌, ◌<◌, [], ◌∷◌, get_or, Bool, ◌||◌, ◌==◌}
use Rattle.fm_grammar.specs.Exposition.{Text}
use Rattle.fm_grammar.specs.Spelling.{escape}

-- a line feed, a quote or a backslash
abbrev pub is_special : ℕ → Bool
is_special x = ((x == 10) || (x == 34)) || (x == 92)

-- each byte from the i-th up to the j-th is written as it is
abbrev pub IsPlainBetween : Text → ℕ → ℕ → Type 0
IsPlainBetween text i j = (k : ℕ) → i ≤ k → k < j → escape (get_or text k 0) ≡ get_or text k 0 ∷ []
