-- Parts of definitions, for lemmas and private functions.
use Rattle.std.specs.Prelude.{◌≡◌, ℕ, Bool, true, List, ◌++◌, codes, ◌⊎◌, nat_lt, nat_le, if◌then◌else◌}
use Rattle.std.specs.List.{flat_map}
use Rattle.fm_grammar.specs.Exposition.{Text}
use Rattle.fm_grammar.specs.Names.{IsLabelStart, IsDigit}

-- words, each after an underscore
abbrev pub further_words : List (List ℕ) → List ℕ
further_words words = flat_map (λ word. codes "_" ++ word) words

-- a letter, a digit or an underscore
abbrev pub IsLabelByte : ℕ → Type 0
IsLabelByte byte = IsLabelStart byte ⊎ IsDigit byte

-- a byte that begins a character
abbrev pub begins_character : ℕ → Bool
begins_character byte = if nat_lt byte 128 then true else nat_le 192 byte

-- the last line of a document
abbrev pub IsLastLine : Text → Type 0
IsLastLine line = line ≡ codes "# EOF"
