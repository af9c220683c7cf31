-- Runs of bytes that end at a byte of some kind, seen a vector at a time through the mask of those.
use Rattle.std.proofs.Common.{◌≡◌, ℕ, zero, suc, ◌+◌, ◌*◌, ◌<◌, ◌≤◌, Bool, true, false, not, cond, eqb, List, [], ◌∷◌, ◌++◌, map, length, get_or, take, drop, refl, sym, ap, ◌∙◌, arith}
use Rattle.std.proofs.lemmas.Bool.{eq-eqb, ne_eqb, true≢false}
use Rattle.std.proofs.lemmas.Simd.{chunk-drop, length-chunk, leading_from_mask_l, trailing_mask_l}
use Rattle.std.proofs.lemmas.List.{length-drop}
use Rattle.std.proofs.lemmas.List.Folds.{prefix_len-append}
use Rattle.std.proofs.lemmas.List.Sums.{prefix_len-le-length, prefix_len_stops, prefix_len_passes}
use Rattle.std.specs.List.{prefix_len}
use lib.Lanes.{chunk, mask_l}
use lib.Count.{count_trailing_zeros}
use Rattle.fm_grammar.specs.Exposition.{Text}

none_fails : (b : Bool) (n l m : ℕ) → n ≤ l → cond (not b) (1 + n) 0 ≡ 1 + l → (n ≡ l → m ≡ 0) → cond b 1 0 + 2 * m ≡ 0
none_fails true n l m le e ih = let no : ⊥ = omega arith in absurd no
none_fails false n l m le e ih = let z = ih (omega arith) in omega arith

module _ (stops : ℕ → Bool) where
  abbrev run : List ℕ → ℕ
  run d = prefix_len (λ x. not (stops x)) d

  pub run_bound : (d : List ℕ) (i : ℕ) → i ≤ length d → i + run (drop i d) ≤ length d
  run_bound d i h = omega (arith, prefix_len-le-length (λ x. not (stops x)) (drop i d), length-drop i d)

  all_pass : (xs : List ℕ) → run xs ≡ length xs → mask_l (map stops xs) ≡ 0
  all_pass [] e = refl
  all_pass (x ∷ xs) e = none_fails (stops x) _ (length xs) _ (prefix_len-le-length (λ y. not (stops y)) xs) (omega arith) (all_pass xs)

  split : (d : List ℕ) (i n : ℕ) → run (drop i d) ≡ cond (eqb (run (chunk i n d)) (length (chunk i n d))) (length (chunk i n d) + run (drop (i + n) d)) (run (chunk i n d))
  split d i n = ap run (chunk-drop i n d) ∙ prefix_len-append (λ x. not (stops x)) (chunk i n d) (drop (i + n) d)

  pub run_through : (d : List ℕ) (i n : ℕ) → i + n ≤ length d → mask_l (map stops (chunk i n d)) ≡ 0 → run (drop i d) ≡ n + run (drop (i + n) d)
  run_through d i n room none =
      let c = chunk i n d in
      split d i n ∙ ap (λ b. cond b (length c + run (drop (i + n) d)) (run c)) (eq-eqb _ _ (leading_from_mask_l stops c none))
      ∙ ap (λ k. k + run (drop (i + n) d)) (length-chunk i n d room)

  pub run_stops : (d : List ℕ) (i n : ℕ) → i + n ≤ length d → n ≤ 64 → 0 < mask_l (map stops (chunk i n d)) → run (drop i d) ≡ count_trailing_zeros 64 (mask_l (map stops (chunk i n d)))
  run_stops d i n room short some =
      let c = chunk i n d in
      split d i n ∙ ap (λ b. cond b (length c + run (drop (i + n) d)) (run c)) (ne_eqb _ _ (λ (e : run c ≡ length c). omega (arith, all_pass c e)))
      ∙ sym (trailing_mask_l stops 64 c (omega (arith, length-chunk i n d room)) some)

not_false : (b : Bool) → not b ≡ false → b ≡ true
not_false true e = refl
not_false false e = absurd (true≢false e)

-- at the end of a run a byte of that kind comes,
pub run_end : (stops : ℕ → Bool) (text : Text) (end : ℕ) → end ≡ prefix_len (λ x. not (stops x)) text → end < length text → stops (get_or text end 0) ≡ true
run_end stops text end is within =
    not_false _ (ap (λ i. not (stops (get_or text i 0))) is ∙ prefix_len_stops (λ x. not (stops x)) text 0 (omega (arith, is, within)))

-- and none before it
pub run_lacks : (stops : ℕ → Bool) (text : Text) (end k : ℕ) → end ≡ prefix_len (λ x. not (stops x)) text → k < end → stops (get_or text k 0) ≡ true → ⊥
run_lacks stops text end k is before stop =
    let passes = prefix_len_passes (λ x. not (stops x)) text k 0 (omega (arith, is, before)) in
    true≢false (sym passes ∙ ap not stop)

-- a text is cut at an index
pub cut_at : (text : Text) (i byte : ℕ) → i < length text → get_or text i 0 ≡ byte → text ≡ take i text ++ (byte ∷ drop (i + 1) text)
cut_at [] i byte within is = absurd (omega arith)
cut_at (x ∷ text) zero byte within is = ap (λ b. b ∷ text) is
cut_at (x ∷ text) (suc i) byte within is =
    let next : suc (i + 1) ≡ suc i + 1 = omega arith in
    ap (λ z. x ∷ z) (cut_at text i byte (omega arith) is) ∙ ap (λ k. x ∷ (take i text ++ (byte ∷ drop k (x ∷ text)))) next

pub take_get : (text : Text) (i k : ℕ) → k < i → get_or (take i text) k 0 ≡ get_or text k 0
take_get [] zero k h = refl
take_get [] (suc i) k h = refl
take_get (x ∷ text) zero k h = absurd (omega arith)
take_get (x ∷ text) (suc i) zero h = refl
take_get (x ∷ text) (suc i) (suc k) h = take_get text i k (omega arith)
