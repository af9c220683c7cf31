-- Label values as they are kept for a look-up, and what a hasher is fed for them.
use Rattle.std.specs.Prelude.{◌≡◌, ℕ, ◌+◌, ◌-◌, ◌*◌, ◌/◌, Bool, List, [], ◌∷◌, ◌++◌, length, map, take, replicate, if◌then◌else◌, nat_le, nat_eq}
use Rattle.std.specs.List.{flat_map}
use Rattle.std.specs.Str.{bytes_eq}
use Rattle.std.specs.Borrow.{Bor}
use Rattle.std.specs.Hash as hash
use Rattle.std.specs.Cmp.{first_so, second_so}
use Rattle.std.specs.Cmp.Lexicographic.{pointwise, bytes_decides}
use Rattle.std.proofs.Common.{true, true≢false, sym, refl}
use Rattle.fm_grammar.specs.Exposition.{Text}
pub use Rattle.fm_registry_rules.specs.LabelNames.{shown_texts}

-- a value with the byte 255 after it, which no text has
abbrev pub ended : Text → Text
ended value = value ++ 255 ∷ []

-- values, one after the other
abbrev pub joined : List Text → Text
joined = flat_map ended

-- whether two lists of values are the same
abbrev pub values_eq : List Text → List Text → Bool
values_eq xs ys = bytes_eq (joined xs) (joined ys)

-- the values in what is left of such a text, after the beginning of one
abbrev pub values_after : Text → Text → List Text
values_after value [] = []
values_after value (c ∷ cs) = if nat_eq c 255 then value ∷ values_after [] cs else values_after (value ++ c ∷ []) cs

-- the values in such a text
abbrev pub values_in : Text → List Text
values_in = values_after []

-- 64 bytes that begin with a text of at most 64 bytes, with zeros after it
abbrev pub in_block : Text → Text
in_block text = text ++ replicate (64 - length text) 0

-- how many bytes of a block are fed: up to a multiple of eight
abbrev pub rounded : ℕ → ℕ
rounded count = 8 * ((count + 7) / 8)

-- What a hasher is fed for joined values: at most 64 bytes as one write, with zeros at the end, and more of them value by value.
abbrev pub writes_of : Text → List (List ℕ)
writes_of text = if nat_le (length text) 64 then take (rounded (length text)) (in_block text) ∷ [] else flat_map hash.str (values_in text)

-- equal borrowed texts
pub shown_same : (xs ys : List (Bor Text)) → pointwise (λ (x y : Bor Text). bytes_eq x.now y.now) xs ys ≡ true → shown_texts xs ≡ shown_texts ys
shown_same [] [] same = refl
shown_same [] (y ∷ ys) same = absurd (true≢false (sym same))
shown_same (x ∷ xs) [] same = absurd (true≢false (sym same))
shown_same (x ∷ xs) (y ∷ ys) same =
    let here = (bytes_decides x.now y.now).0 (first_so (bytes_eq x.now y.now) _ same) in
    let rest = shown_same xs ys (second_so (bytes_eq x.now y.now) _ same) in
    λ i. here i ∷ rest i
