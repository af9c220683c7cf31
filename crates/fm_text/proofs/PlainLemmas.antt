-- From the mask of a vector to bytes that are written as they are.
use Rattle.std.proofs.Common.{◌≡◌, ℕ, suc, ◌+◌, ◌%◌, ◌^◌, ◌≤◌, Bool, true, false, cond, ◌==◌, ◌||◌, List, [], ◌∷◌, ◌++◌, length, get_or, map, replicate, bit_or, IsTrue, refl, sym, ap, ◌∙◌, arith}
use Rattle.std.proofs.lemmas.Bool.{or_parts, eqb-true}
use Rattle.std.proofs.lemmas.List.{length-map}
use Rattle.std.proofs.lemmas.Simd.{length-chunk, zip2_splat, zip2_of_maps, map-map, mask_l-mod, none_from_empty_mask}
use Rattle.std.specs.Bool.{OnTrue}
use lib.Lanes.{chunk, mask_l, zip2, top}
use Rattle.fm_grammar.specs.Exposition.{Text}
use Rattle.fm_grammar.specs.Spelling.{escape, escaped}
use Rattle.fm_text.specs.inside.Plain.{is_special, IsPlainBetween}

-- a lane of the comparison of two vectors
abbrev pub hit : ℕ → ℕ → ℕ
hit a b = cond (a == b) 255 0

abbrev pub lane : ℕ → ℕ
lane x = bit_or (bit_or (hit x 10) (hit x 34)) (hit x 92)

abbrev pub lanes : List ℕ → ℕ → List ℕ
lanes v n = zip2 bit_or (zip2 bit_or (zip2 hit v (replicate n 10)) (zip2 hit v (replicate n 34))) (zip2 hit v (replicate n 92))

one_lane : (a b c : Bool) → top 7 (bit_or (bit_or (cond a 255 0) (cond b 255 0)) (cond c 255 0)) ≡ (a || b) || c
one_lane true true true = refl
one_lane true true false = refl
one_lane true false true = refl
one_lane true false false = refl
one_lane false true true = refl
one_lane false true false = refl
one_lane false false true = refl
one_lane false false false = refl

lanes_are : (v : List ℕ) (n : ℕ) → length v ≡ n → lanes v n ≡ map lane v
lanes_are v n long =
    zip2_of_maps bit_or (λ x. bit_or (hit x 10) (hit x 34)) (λ x. hit x 92) v
    (zip2_of_maps bit_or (λ x. hit x 10) (λ x. hit x 34) v (zip2_splat hit v n 10 long) (zip2_splat hit v n 34 long))
    (zip2_splat hit v n 92 long)

pub mask_is : (v : List ℕ) (n : ℕ) → length v ≡ n → n ≤ 64 → mask_l (map (top 7) (lanes v n)) % 2 ^ 64 ≡ mask_l (map is_special v)
mask_is v n long few =
    ap (λ l. mask_l (map (top 7) l) % 2 ^ 64) (lanes_are v n long)
    ∙ ap (λ l. mask_l l % 2 ^ 64) (map-map (top 7) lane v)
    ∙ (λ i. mask_l (map (λ x. one_lane (x == 10) (x == 34) (x == 92) i) v) % 2 ^ 64)
    ∙ mask_l-mod (map is_special v) 64 (omega (arith, length-map v is_special))

pub as_it_is : (x : ℕ) → is_special x ≡ false → escape x ≡ x ∷ []
unfolding escape
as_it_is x none =
    let last = or_parts ((x == 10) || (x == 34)) (x == 92) none in
    let first = or_parts (x == 10) (x == 34) last.0 in
    rw (first.0, first.1, last.1) refl

on_true : (b : Bool) (P : Type 0) → (b ≡ true → P) → OnTrue b P
on_true true P f = f refl
on_true false P f = tt

-- the three tests of a vector of n lanes, as the code makes them
pub plain_from_lanes : (text : Text) (at n : ℕ) → at + n ≤ length text → n ≤ 64 → OnTrue (mask_l (map (top 7) (lanes (chunk at n text) n)) % 2 ^ 64 == 0) (IsPlainBetween text at (at + n))
plain_from_lanes text at n room few =
    let masked = mask_is (chunk at n text) n (length-chunk at n text room) few in
    let plain : mask_l (map (top 7) (lanes (chunk at n text) n)) % 2 ^ 64 == 0 ≡ true → IsPlainBetween text at (at + n) =
    λ e k p q. as_it_is (get_or text k 0) (none_from_empty_mask is_special text at n 0 room (sym masked ∙ eqb-true _ 0 e) k p q) in
    on_true _ _ plain

whole_as_it_is : (text : Text) → IsPlainBetween text 0 (length text) → escaped text ≡ text
whole_as_it_is [] plain = refl
whole_as_it_is (x ∷ xs) plain =
    let first : escape x ≡ x ∷ [] = plain 0 (omega arith) (omega arith) in
    let rest = whole_as_it_is xs (λ k p q. plain (suc k) (omega arith) (omega arith)) in
    λ i. first i ++ rest i

pub escaped_plain : (b : Bool) (text : Text) → OnTrue b (IsPlainBetween text 0 (length text)) → IsTrue b → escaped text ≡ text
escaped_plain true text plain is = whole_as_it_is text plain
escaped_plain false text plain is = absurd (cc)
