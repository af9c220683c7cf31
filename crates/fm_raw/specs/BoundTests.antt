-- A bucket's bound: which values are above it, and its text.
use Rattle.std.specs.Prelude.{ℕ, ℤ, Bool, false, List, int_lt, codes}
use Rattle.fm_grammar.specs.Numbers.{fixed_text}
use Rattle.fm_raw.specs.declared.bucket.bound.Bound.{Bound}
use Rattle.fm_raw.specs.declared.bucket.bound.Bound.TheVariants.{Finite, Inf}

-- the bound is below x
abbrev pub lies_below : Bound → ℤ → Bool
lies_below (Finite b) x = int_lt b x
lies_below Inf x = false

-- the bound's text as a label value
abbrev pub bound_text : Bound → List ℕ
bound_text (Finite b) = fixed_text b
bound_text Inf = codes "+Inf"
