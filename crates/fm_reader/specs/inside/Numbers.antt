-- What reading a number finds: the number that has the text, or that no number has it.
use Rattle.std.specs.Prelude.{◌≡◌, ◌≢◌, ℕ, ◌+◌, ◌-◌, ◌*◌, ◌^◌, get_or, Option, Some, None, ℤ}
use Rattle.std.specs.Fmt.{signed_decimal}
use Rattle.fm_grammar.specs.Exposition.{Text}
use Rattle.fm_grammar.specs.Numbers.{fixed_text, millis_text}
use Rattle.fm_grammar.specs.WellFormed.{IsBetween, AreMillis}

abbrev pub FoundWhole : Text → Option ℤ → Type 0
FoundWhole text None = (z : ℤ) → IsBetween (2 ^ 63) (2 ^ 64) z → text ≢ signed_decimal z
FoundWhole text (Some z) = IsBetween (2 ^ 63) (2 ^ 64) z × (text ≡ signed_decimal z)

abbrev pub FoundMillis : Text → Option ℕ → Type 0
FoundMillis text None = (t : ℕ) → AreMillis t → text ≢ millis_text t
FoundMillis text (Some t) = AreMillis t × (text ≡ millis_text t)

abbrev pub FoundFixed : Text → Option ℤ → Type 0
FoundFixed text None = (z : ℤ) → IsBetween (2 ^ 127) (2 ^ 127) z → text ≢ fixed_text z
FoundFixed text (Some z) = IsBetween (2 ^ 127) (2 ^ 127) z × (text ≡ fixed_text z)

-- the value of the digit at an index, and zero if it is missing
abbrev pub digit_at : Text → ℕ → ℕ
digit_at text i = get_or text i 48 - 48

abbrev pub places_3 : Text → ℕ
places_3 text = digit_at text 0 * 100 + digit_at text 1 * 10 + digit_at text 2

abbrev pub places_6 : Text → ℕ
places_6 text = digit_at text 0 * 100000 + digit_at text 1 * 10000 + digit_at text 2 * 1000 + digit_at text 3 * 100 + digit_at text 4 * 10 + digit_at text 5
