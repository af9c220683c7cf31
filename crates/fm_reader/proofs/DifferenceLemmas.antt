-- Two texts that are compared line by line.
use Rattle.std.proofs.Common.{◌≡◌, ◌≢◌, ℕ, ◌≤◌, ◌+◌, ◌==◌, List, [], ◌∷◌, ◌++◌, length, get_or, take, true, false, refl, sym, length-append, ap, ◌∙◌, arith}
use Rattle.std.specs.Prelude.{Option, Some, None, is_none, slice_get}
use Rattle.std.specs.Option.{option_copied}
use Rattle.std.specs.Borrow.{Bor}
use Rattle.std.specs.List.{All, join_with_byte}
use Rattle.std.proofs.lemmas.Bool.{ne_eqb}
use Rattle.std.proofs.lemmas.List.Sums.{count_by-le-length}
use Rattle.std.proofs.lemmas.List.Elements.{All-from_get_or}
use Rattle.std.proofs.lemmas.List.Splits.{slice_split_at, slice_split_none, join_with_byte-slice_split, length-slice_split}
use Rattle.fm_grammar.specs.Exposition.{Text}
use Rattle.fm_reader.specs.declared.difference.Difference.{Difference}
use Rattle.fm_reader.specs.Differences.{lines_of, IsFirstDifference}
use Rattle.fm_reader.specs.inside.Cuts.{Lacks}
use Rattle.fm_reader.specs.inside.Remaining.{lines_left, IsLineTaken}

no_feed : (text : Text) → Lacks 10 text → All (λ x. (x == 10) ≡ false) text
no_feed text lacks = All-from_get_or (λ x. (x == 10) ≡ false) text 0 (λ i within. ne_eqb (get_or text i 0) 10 (lacks i within))

-- the lines of a text that has a line feed, and of one that has none

pub lines_cut : (text front after : Text) → text ≡ front ++ (10 ∷ after) → Lacks 10 front → lines_of text ≡ front ∷ lines_of after
lines_cut text front after is lacks = ap lines_of is ∙ slice_split_at (λ x. x == 10) front 10 after (no_feed front lacks) refl

pub lines_last : (text : Text) → Lacks 10 text → lines_of text ≡ text ∷ []
lines_last text lacks = slice_split_none (λ x. x == 10) text (no_feed text lacks)

-- texts of the same lines are the same
pub same_texts : (left right : Text) → lines_of left ≡ lines_of right → left ≡ right
same_texts left right same = sym (join_with_byte-slice_split 10 left) ∙ ap (join_with_byte 10) same ∙ join_with_byte-slice_split 10 right

-- the lines that were the same so far, and what is left of both texts
pub record Compared (left right : Text) (count : ℕ) (left_rest right_rest : Option (Bor Text)) : Type 0 where
  pub same : List Text
  pub number : count ≡ length same
  pub left_is : lines_of left ≡ same ++ lines_left left_rest
  pub right_is : lines_of right ≡ same ++ lines_left right_rest

pub count_bound : (left right : Text) (count : ℕ) (left_rest right_rest : Option (Bor Text)) → Compared left right count left_rest right_rest → count ≤ length left + 1
count_bound left right count left_rest right_rest h =
    omega (arith, h.number, ap length h.left_is, length-append h.same (lines_left left_rest), length-slice_split (λ x. x == 10) left, count_by-le-length (λ x. x == 10) left)

-- the first line that is left is the one that is taken
pub first_left : (rest line after : Option (Bor Text)) → IsLineTaken rest (line, after) → option_copied line ≡ slice_get (lines_left rest) 0
first_left rest None after h = sym (ap (λ ls. slice_get ls 0) h)
first_left rest (Some line) after h = sym (ap (λ ls. slice_get ls 0) h)

take_same : (same rest : List Text) → take (length same) (same ++ rest) ≡ same
take_same [] rest = refl
take_same (line ∷ same) rest = ap (λ ls. line ∷ ls) (take_same same rest)

get_after : (same rest : List Text) → slice_get (same ++ rest) (length same) ≡ slice_get rest 0
get_after [] rest = refl
get_after (line ∷ same) rest = get_after same rest

-- the line at which they differ
pub differs : (left right : Text) (count : ℕ) (left_rest right_rest left_line right_line left_after right_after : Option (Bor Text)) → Compared left right count left_rest right_rest → IsLineTaken left_rest (left_line, left_after) → IsLineTaken right_rest (right_line, right_after) → option_copied left_line ≢ option_copied right_line → IsFirstDifference left right (record { line = count + 1; left = left_line; right = right_line })
differs left right count left_rest right_rest left_line right_line left_after right_after h taken_left taken_right differ =
    let left_is = h.left_is in
    let right_is = h.right_is in
    record {
      same_lines = count;
      number = refl;
      same = rw (left_is, right_is, h.number, take_same h.same (lines_left left_rest), take_same h.same (lines_left right_rest)) refl;
      left_line = first_left left_rest left_line left_after taken_left ∙ sym (get_after h.same (lines_left left_rest)) ∙ ap (slice_get (h.same ++ lines_left left_rest)) (sym h.number) ∙ ap (λ ls. slice_get ls count) (sym left_is);
      right_line = first_left right_rest right_line right_after taken_right ∙ sym (get_after h.same (lines_left right_rest)) ∙ ap (slice_get (h.same ++ lines_left right_rest)) (sym h.number) ∙ ap (λ ls. slice_get ls count) (sym right_is);
      differ = differ;
    }

-- texts that differ somewhere are different
pub different : (left right : Text) (d : Difference) → IsFirstDifference left right d → left ≢ right
different left right d h e = h.differ (h.left_line ∙ ap (λ t. slice_get (lines_of t) h.same_lines) e ∙ sym h.right_line)

none_left : (rest line after : Option (Bor Text)) → IsLineTaken rest (line, after) → option_copied line ≡ None → lines_left rest ≡ []
none_left rest None after h e = h
none_left rest (Some line) after h e = absurd (Prim.cc)

-- both texts have ended
pub ended : (left right : Text) (count : ℕ) (left_rest right_rest left_line right_line left_after right_after : Option (Bor Text)) → Compared left right count left_rest right_rest → IsLineTaken left_rest (left_line, left_after) → IsLineTaken right_rest (right_line, right_after) → option_copied left_line ≡ option_copied right_line → is_none left_line ≡ true → left ≡ right
ended left right count left_rest right_rest (Some line) right_line left_after right_after h taken_left taken_right same none = absurd (Prim.cc)
ended left right count left_rest right_rest None right_line left_after right_after h taken_left taken_right same none =
    same_texts left right
    (h.left_is ∙ ap (λ ls. h.same ++ ls) (taken_left ∙ sym (none_left right_rest right_line right_after taken_right (sym same))) ∙ sym h.right_is)
