-- The bytes of a text that is written without an escape.
use Rattle.std.specs.Prelude.{ℕ, Bool, not}
use Rattle.fm_text.specs.inside.Plain.{is_special}

abbrev pub is_plain : ℕ → Bool
is_plain x = not (is_special x)
