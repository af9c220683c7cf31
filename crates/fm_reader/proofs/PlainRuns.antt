-- Runs of bytes that are written as they are.
use Rattle.std.proofs.Common.{◌≡◌, ℕ, suc, ◌+◌, ◌%◌, ◌^◌, ◌<◌, ◌≤◌, Bool, true, false, not, cond, ◌==◌, ◌||◌, List, [], ◌∷◌, ◌++◌, map, length, get_or, take, drop, replicate, bit_or, ⊎_elim, refl, sym, subst, ap, ap₂, ◌∙◌, arith}
use Rattle.std.proofs.lemmas.Bool.{or_parts, eqb-true, cases_lt, true≢false}
use Rattle.std.proofs.lemmas.Simd.{zip2_splat, zip2_of_maps, map-map, mask_l-mod}
use Rattle.std.proofs.lemmas.List.{length-map, take-append-drop}
use Rattle.std.proofs.lemmas.Str.{IsCharBoundary-end, IsCharBoundary-before_ascii}
use Rattle.std.specs.Str.{IsCharBoundary}
use Rattle.std.specs.List.{prefix_len}
use lib.Lanes.{mask_l, zip2, top}
use Rattle.fm_grammar.specs.Exposition.{Text}
use Rattle.fm_grammar.specs.Spelling.{escape, escaped}
use Rattle.fm_text.specs.inside.Plain.{is_special}
use Rattle.fm_text.proofs.PlainLemmas.{as_it_is}
use Rattle.fm_reader.specs.inside.Plain.{is_plain}
use Rattle.fm_reader.proofs.Runs.{run_end}

one_more : (x : ℕ) (text : Text) (n m : ℕ) → m ≡ suc n → escape x ≡ x ∷ [] → escaped (take n text) ≡ take n text → escaped (take m (x ∷ text)) ≡ take m (x ∷ text)
one_more x text n m e plain rest = subst (λ k. escaped (take k (x ∷ text)) ≡ take k (x ∷ text)) (sym e) (ap (λ z. escape x ++ z) rest ∙ ap (λ z. z ++ take n text) plain)

-- it is written as it is
pub run_as_it_is : (text : Text) → escaped (take (prefix_len is_plain text) text) ≡ take (prefix_len is_plain text) text
run_as_it_is [] = refl
run_as_it_is (x ∷ text) = by (run_as_it_is text) (is_special x) refl
  where
    by : escaped (take (prefix_len is_plain text) text) ≡ take (prefix_len is_plain text) text → (b : Bool) → is_special x ≡ b → escaped (take (cond (not (is_special x)) (1 + prefix_len is_plain text) 0) (x ∷ text)) ≡ take (cond (not (is_special x)) (1 + prefix_len is_plain text) 0) (x ∷ text)
    by rest true e = rw e refl
    by rest false e = rw e (one_more x text (prefix_len is_plain text) (1 + prefix_len is_plain text) (omega arith) (as_it_is x e) rest)

special_is_ascii : (x : ℕ) → is_special x ≡ true → x < 128
special_is_ascii x e = by (x == 10) (x == 34) (x == 92) refl refl refl
  where
    by : (a b c : Bool) → (x == 10) ≡ a → (x == 34) ≡ b → (x == 92) ≡ c → x < 128
    by true b c p q r = let k = eqb-true x 10 p in omega arith
    by false true c p q r = let k = eqb-true x 34 q in omega arith
    by false false true p q r = let k = eqb-true x 92 r in omega arith
    by false false false p q r = absurd (true≢false (sym e ∙ (rw (p, q, r) refl)))

-- and a character ends there
pub run_boundary : (text : Text) (end : ℕ) → end ≡ prefix_len is_plain text → end ≤ length text → IsCharBoundary text end
run_boundary text end is bound = ⊎_elim
    (λ within. IsCharBoundary-before_ascii text end within (special_is_ascii (get_or text end 0) (run_end is_special text end is within)))
    (λ past. subst (IsCharBoundary text) (let same : length text ≡ end = omega arith in same) (IsCharBoundary-end text))
    (cases_lt end (length text))

-- so a value may begin with it
pub begun : (text front rest value : Text) (end : ℕ) → end ≡ prefix_len is_plain text → front ≡ take end text → rest ≡ drop end text → value ≡ front → text ≡ escaped value ++ rest
begun text front rest value end is f r v =
    let n = prefix_len is_plain text in
    let shown : value ≡ take n text = v ∙ f ∙ ap (λ i. take i text) is in
    sym (take-append-drop n text) ∙ ap₂ (λ a b. a ++ b) (sym (ap escaped shown ∙ run_as_it_is text)) (sym (r ∙ ap (λ i. drop i text) is))
