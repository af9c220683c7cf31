-- A loop that moves to the front what a closure keeps.
use Rattle.std.proofs.Common.{◌≡◌, ℕ, ◌+◌, ◌≤◌, ◌<◌, Bool, true, false, List, [], ◌∷◌, ◌++◌, length, take, drop, get_or, swap, slice_get, Some, refl, sym, ap, ◌∙◌, arith, length-append}
use Rattle.std.proofs.lemmas.List.{take_more, take-set-le, drop_more, drop-set-lt}
use Rattle.std.proofs.lemmas.List.Edits.{swap_is, swapped_from_swap, length-swap}
use Rattle.std.proofs.lemmas.Option.{get_or_from_slice_get, slice_get-get_or}
use Rattle.std.specs.List.{items_where_true}
use Rattle.std.specs.List.Retain.{ReturnsInTurn}

module _ {X : Type 0} where
  -- one answer more
  items_more_true : (bs : List Bool) (xs : List X) (x : X) → slice_get xs (length bs) ≡ Some x → items_where_true (bs ++ true ∷ []) xs ≡ items_where_true bs xs ++ x ∷ []
  items_more_true [] [] x at = absurd cc
  items_more_true [] (y ∷ xs) x at = let same : y ≡ x = cc in ap (λ v. v ∷ []) same
  items_more_true (b ∷ bs) [] x at = absurd cc
  items_more_true (true ∷ bs) (y ∷ xs) x at = ap (λ t. y ∷ t) (items_more_true bs xs x at)
  items_more_true (false ∷ bs) (y ∷ xs) x at = items_more_true bs xs x at

  items_more_false : (bs : List Bool) (xs : List X) → items_where_true (bs ++ false ∷ []) xs ≡ items_where_true bs xs
  items_more_false [] [] = refl
  items_more_false [] (y ∷ xs) = refl
  items_more_false (b ∷ bs) [] = refl
  items_more_false (true ∷ bs) (y ∷ xs) = ap (λ t. y ∷ t) (items_more_false bs xs)
  items_more_false (false ∷ bs) (y ∷ xs) = items_more_false bs xs

module _ {X P : Type 0} (R : P → X → Bool → P → Type 0) where
  turns_more : (f g h : P) (bs : List Bool) (xs : List X) (x : X) (b : Bool) → ReturnsInTurn R f bs xs g → R g x b h → slice_get xs (length bs) ≡ Some x → ReturnsInTurn R f (bs ++ b ∷ []) xs h
  turns_more f g h [] [] x b ran call at = absurd cc
  turns_more f g h [] (y ∷ xs) x b ran call at = let same : y ≡ x = cc in (h, rw (ran, same) call, refl)
  turns_more f g h (c ∷ bs) [] x b ran call at = absurd ran
  turns_more f g h (c ∷ bs) (y ∷ xs) x b ran call at = (ran.0, ran.1, turns_more ran.0 g h bs xs x b ran.2 call at)

  -- after the calls at the first i items of xs: they left the closure f as g, what it keeps stands in the first n places of ys, and
  -- from i on ys is as xs
  pub record RetainedSoFar (f g : P) (xs ys : List X) (n i : ℕ) : Type 0 where
    pub answers : List Bool
    pub count : length answers ≡ i
    pub ran : ReturnsInTurn R f answers xs g
    pub front : take n ys ≡ items_where_true answers xs
    pub rest : drop i ys ≡ drop i xs
    pub beyond : n ≤ i
    pub long : length ys ≡ length xs

  -- before the first call
  pub retained_none : (f : P) (xs : List X) → RetainedSoFar f f xs xs 0 0
  retained_none f xs = record { answers = []; count = refl; ran = refl; front = refl; rest = refl; beyond = omega arith; long = refl }

  module _ (f g h : P) (xs ys : List X) (n i : ℕ) (x : X) (so_far : RetainedSoFar f g xs ys n i) (within : i < length ys) (read : slice_get ys i ≡ Some x) where
    both : get_or ys i x ∷ drop (i + 1) ys ≡ get_or xs i x ∷ drop (i + 1) xs
    both =
        let long = so_far.long in
        sym (drop_more ys i x within) ∙ so_far.rest ∙ drop_more xs i x (omega arith)

    rest_more : drop (i + 1) ys ≡ drop (i + 1) xs
    rest_more = ap (drop 1) both

    same_read : slice_get xs (length so_far.answers) ≡ Some x
    same_read =
        let long = so_far.long in
        let here : get_or xs i x ≡ x = sym (ap (λ l. get_or l 0 x) both) ∙ get_or_from_slice_get ys i x x read in
        ap (λ k. slice_get xs k) so_far.count ∙ slice_get-get_or xs i x (omega arith) ∙ ap Some here

    counted : (b : Bool) → length (so_far.answers ++ b ∷ []) ≡ i + 1
    counted b = length-append so_far.answers (b ∷ []) ∙ ap (λ k. k + 1) so_far.count

    -- an item that goes
    pub retained_not : R g x false h → RetainedSoFar f h xs ys n (i + 1)
    retained_not call =
        let beyond = so_far.beyond in
        record {
          answers = so_far.answers ++ false ∷ [];
          count = counted false;
          ran = turns_more f g h so_far.answers xs x false so_far.ran call same_read;
          front = so_far.front ∙ sym (items_more_false so_far.answers xs);
          rest = rest_more;
          beyond = omega arith;
          long = so_far.long;
        }

    -- an item that stays, which is moved to the end of those that stay
    pub retained_one : (zs : List X) → zs ≡ swap ys n i → R g x true h → RetainedSoFar f h xs zs (n + 1) (i + 1)
    retained_one zs moved call =
        let beyond = so_far.beyond in
        let is = moved ∙ sym (swap_is ys n i x (omega arith) within) in
        let long : length zs ≡ length ys = ap length moved ∙ length-swap ys n i in
        let first : take n zs ≡ take n ys = ap (take n) is ∙ take-set-le n _ i _ beyond ∙ take-set-le n ys n _ (omega arith) in
        let here : get_or zs n x ≡ x = (swapped_from_swap ys zs n i x (omega arith) within moved).0 ∙ get_or_from_slice_get ys i x x read in
        let after : drop (i + 1) zs ≡ drop (i + 1) ys = ap (drop (i + 1)) is ∙ drop-set-lt (i + 1) _ i _ (omega arith) ∙ drop-set-lt (i + 1) ys n _ (omega arith) in
        record {
          answers = so_far.answers ++ true ∷ [];
          count = counted true;
          ran = turns_more f g h so_far.answers xs x true so_far.ran call same_read;
          front = take_more zs n x (omega arith) ∙ (λ j. first j ++ here j ∷ []) ∙ ap (λ t. t ++ x ∷ []) so_far.front ∙ sym (items_more_true so_far.answers xs x same_read);
          rest = after ∙ rest_more;
          beyond = omega arith;
          long = long ∙ so_far.long;
        }
