-- Escaping a text keeps it valid UTF-8: only ASCII bytes are escaped, by ASCII bytes.
use Rattle.std.proofs.Common.{◌≡◌, ℕ, ◌<◌, ◌≤◌, Bool, true, ◌&&◌, nat_lt, ltb-true, List, [], ◌∷◌, length, get_or, inl, inr, sym, refl, subst, arith, append-nil, suc}
use Rattle.std.proofs.Math.Utf8.{scalar, scalars, encode, encodes, low_scalar}
use Rattle.std.proofs.lemmas.Bool.{and_parts, cases_lt}
use Rattle.std.proofs.lemmas.Grind.{flat_map-append}
use Rattle.std.proofs.lemmas.Str.{IsUtf8-append, IsUtf8-nil, IsUtf8-encode, encode_ascii, inside_one}
use Rattle.std.specs.List.{AllByRecursion}
use Rattle.std.specs.Str.{IsUtf8}
use Rattle.fm_grammar.specs.Exposition.{Text}
use Rattle.fm_grammar.specs.Spelling.{escape, escaped}
use Rattle.fm_grammar.proofs.Escapes.{Writing, feed, quoted, doubled, plain, writing, escape-feed, escape-quoted, escape-doubled, escape-plain}

-- ASCII bytes are valid UTF-8

ascii_then : (byte : ℕ) (text : Text) → byte < 128 → IsUtf8 text → IsUtf8 (byte ∷ text)
ascii_then byte text small u = IsUtf8-append (byte ∷ []) text (subst IsUtf8 (encode_ascii byte small) (IsUtf8-encode byte (low_scalar byte (omega arith)))) u

pub utf8_bytes : (P : ℕ → Type 0) → ((byte : ℕ) → P byte → byte < 128) → (text : Text) → AllByRecursion P text → IsUtf8 text
utf8_bytes P small [] h = IsUtf8-nil
utf8_bytes P small (byte ∷ text) h = ascii_then byte text (small byte h.0) (utf8_bytes P small text h.1)

abbrev pub are_ascii : Text → Bool
are_ascii [] = true
are_ascii (byte ∷ text) = nat_lt byte 128 && are_ascii text

pub utf8_ascii : (text : Text) → are_ascii text ≡ true → IsUtf8 text
utf8_ascii [] e = IsUtf8-nil
utf8_ascii (byte ∷ text) e = let p = and_parts _ _ e in ascii_then byte text (ltb-true _ _ p.0) (utf8_ascii text p.1)

-- the escape of an ASCII byte is ASCII, and no other byte has one

escape_small : (byte : ℕ) → byte < 128 → Writing byte → IsUtf8 (escape byte)
escape_small byte small (feed p) = rw (escape-feed byte p) (utf8_ascii (92 ∷ 110 ∷ []) refl)
escape_small byte small (quoted p) = rw (escape-quoted byte p) (utf8_ascii (92 ∷ 34 ∷ []) refl)
escape_small byte small (doubled p) = rw (escape-doubled byte p) (utf8_ascii (92 ∷ 92 ∷ []) refl)
escape_small byte small (plain f q d) = rw (escape-plain byte f q d) (ascii_then byte _ small IsUtf8-nil)

escaped_great : (text : Text) → ((k : ℕ) → k < length text → 128 ≤ get_or text k 0) → escaped text ≡ text
escaped_great [] h = refl
escaped_great (byte ∷ text) h =
    let great : 128 ≤ byte = h 0 (omega arith) in
    let first : escape byte ≡ byte ∷ [] = escape-plain byte (λ e. omega arith) (λ e. omega arith) (λ e. omega arith) in
    let others : escaped text ≡ text = escaped_great text (λ k below. h (suc k) (omega arith)) in
    rw (first, others) refl

-- a character, and a text of characters

one_character : (c : ℕ) → scalar c ≡ true → IsUtf8 (escaped (encode c))
one_character c ok = elim (cases_lt c 128) [
  | inl small ↦ rw (encode_ascii c small, append-nil) (escape_small c small (writing c))
  | inr big ↦
      let great : (k : ℕ) → k < length (encode c) → 128 ≤ get_or (encode c) k 0 = λ k below. elim (cases_lt (get_or (encode c) k 0) 128) [
        | inl low ↦ absurd (omega (arith, inside_one c [] (encode c) k (sym (append-nil _)) below low))
        | inr h ↦ h
      ] in
      subst IsUtf8 (sym (escaped_great (encode c) great)) (IsUtf8-encode c ok)
]

all_characters : (cs : List ℕ) → scalars cs ≡ true → IsUtf8 (escaped (encodes cs))
all_characters [] e = IsUtf8-nil
all_characters (c ∷ cs) e =
    let p = and_parts _ _ e in
    subst IsUtf8 (sym (flat_map-append escape (encode c) (encodes cs))) (IsUtf8-append _ _ (one_character c p.0) (all_characters cs p.1))

pub utf8_escaped : (text : Text) → IsUtf8 text → IsUtf8 (escaped text)
utf8_escaped text u = subst (λ t. IsUtf8 (escaped t)) u.1.1 (all_characters u.0 u.1.0)
