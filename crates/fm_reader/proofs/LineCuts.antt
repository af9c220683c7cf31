-- The cut after the first line.
use Rattle.std.proofs.Common.{◌≡◌, ℕ, ◌+◌, ◌%◌, ◌^◌, ◌<◌, ◌≤◌, Bool, true, false, not, cond, ◌==◌, List, length, map, get_or, take, drop, replicate, ◌∷◌, ◌++◌, refl, sym, ap, ap₂, ◌∙◌, arith}
use Rattle.std.proofs.lemmas.Bool.{eq-eqb, eqb-true}
use Rattle.std.proofs.lemmas.Simd.{zip2_splat, map-map, mask_l-mod}
use Rattle.std.proofs.lemmas.List.{length-map}
use Rattle.std.proofs.lemmas.Str.{IsCharBoundary-before_ascii, IsCharBoundary-after_ascii}
use Rattle.std.specs.Str.{IsCharBoundary, IsUtf8}
use Rattle.std.specs.List.{prefix_len}
use lib.Lanes.{mask_l, zip2, top}
use Rattle.fm_grammar.specs.Exposition.{Text}
use Rattle.fm_reader.specs.inside.Cuts.{is_feed, Lacks}
use Rattle.fm_reader.proofs.Runs.{run_end, run_lacks, cut_at, take_get}

abbrev hit : ℕ → ℕ → ℕ
hit a b = cond (a == b) 255 0

one_hit : (a : Bool) → top 7 (cond a 255 0) ≡ a
one_hit true = refl
one_hit false = refl

pub feed_mask : (v : List ℕ) (n : ℕ) → length v ≡ n → n ≤ 64 → mask_l (map (top 7) (zip2 hit v (replicate n 10))) % 2 ^ 64 ≡ mask_l (map is_feed v)
feed_mask v n long few =
    ap (λ l. mask_l (map (top 7) l) % 2 ^ 64) (zip2_splat hit v n 10 long)
    ∙ ap (λ l. mask_l l % 2 ^ 64) (map-map (top 7) (λ x. hit x 10) v)
    ∙ (λ i. mask_l (map (λ x. one_hit (x == 10) i) v) % 2 ^ 64)
    ∙ mask_l-mod (map is_feed v) 64 (omega (arith, length-map v is_feed))

-- the index is that of the first line feed, or the length
abbrev pub IsLineEnd : Text → ℕ → Type 0
IsLineEnd text end = end ≡ prefix_len (λ x. not (is_feed x)) text

feed_at : (text : Text) (end : ℕ) → IsLineEnd text end → end < length text → get_or text end 0 ≡ 10
feed_at text end is within = eqb-true _ 10 (run_end is_feed text end is within)

pub no_feed : (text : Text) (end : ℕ) → IsLineEnd text end → end ≡ length text → Lacks 10 text
no_feed text end is all = λ i within e. run_lacks is_feed text end i is (omega (arith, all, within)) (eq-eqb (get_or text i 0) 10 e)

pub before_feed : (text : Text) (end : ℕ) → IsLineEnd text end → end < length text → IsCharBoundary text end
before_feed text end is within = IsCharBoundary-before_ascii text end within (omega (arith, feed_at text end is within))

pub after_feed : (text : Text) (end : ℕ) → IsUtf8 text → IsLineEnd text end → end < length text → IsCharBoundary text (end + 1)
after_feed text end utf8 is within = IsCharBoundary-after_ascii text end utf8 within (omega (arith, feed_at text end is within))

pub line_cut : (text front after : Text) (end : ℕ) → IsLineEnd text end → end < length text → length front ≡ end → front ≡ take end text → after ≡ drop (end + 1) text → (text ≡ front ++ (10 ∷ after)) × Lacks 10 front
line_cut text front after end is within long f b = (
  cut_at text end 10 within (feed_at text end is within) ∙ ap₂ (λ x y. x ++ (10 ∷ y)) (sym f) (sym b),
  λ i h e. run_lacks is_feed text end i is (omega (arith, long, h))
      (eq-eqb (get_or text i 0) 10 (sym (take_get text end i (omega (arith, long, h))) ∙ ap (λ t. get_or t i 0) (sym f) ∙ e)),
)
