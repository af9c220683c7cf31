-- The texts of `/proc`, as Linux writes them (proc(5)).
use Rattle.std.specs.Prelude.{◌≡◌, ℕ, ◌-◌, ◌∷◌, ◌++◌, ◌==◌, Some, Contains, slice_get, codes}
use Rattle.std.specs.List.{slice_split}
use Rattle.std.specs.Str.Parse.{IsNumeral, digits_value, without_leading_plus}
use Rattle.fm_grammar.specs.Exposition.{Text}

-- the decimal digits of a whole number, which may have a plus in front
pub record IsDecimal (digits : Text) (number : ℕ) : Type 0 where
  pub is_numeral : IsNumeral 10 (without_leading_plus digits)
  pub value : number ≡ digits_value 10 (without_leading_plus digits)

-- the piece with this index, of those between blanks, is this whole number
pub record IsNumberAt (text : Text) (index number : ℕ) : Type 0 where
  pub digits : Text
  pub piece : slice_get (slice_split (λ byte. byte == 32) text) index ≡ Some digits
  pub decimal : IsDecimal digits number

-- what comes in `/proc/self/stat` after the program's name, which ends with the last parenthesis
pub record IsAfterName (stat after : Text) : Type 0 where
  pub before : Text
  pub whole : stat ≡ before ++ 41 ∷ after
  pub last : ¬ (Contains after 41)

-- The field of `/proc/self/stat` with this number in proc(5) is this whole number. It is one of those after the name, which is the
-- second; before each of them there is a blank.
pub record IsField (stat : Text) (field number : ℕ) : Type 0 where
  pub after : Text
  pub after_name : IsAfterName stat after
  pub at : IsNumberAt after (field - 2) number

-- a line of `/proc/stat` has the name `btime` and this whole number
pub record IsBootTime (text : Text) (number : ℕ) : Type 0 where
  pub before : Text
  pub digits : Text
  pub after : Text
  pub line : text ≡ before ++ (codes "\nbtime " ++ (digits ++ 10 ∷ after))
  pub decimal : IsDecimal digits number
