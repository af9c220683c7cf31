-- How the sign of a number is written.
use Rattle.std.specs.Prelude.{ℕ, List, [], ℤ, pos, negsuc, codes}

-- `-` for a negative number, and otherwise the empty text
abbrev pub sign_text : ℤ → List ℕ
sign_text (pos n) = []
sign_text (negsuc n) = codes "-"
