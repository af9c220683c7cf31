-- Joined lists of labels.
use Rattle.std.proofs.Common.{◌≡◌, ℕ, List, [], ◌∷◌, ◌++◌, refl, sym, ap, ◌∙◌, length, length-append, ◌≤◌, ◌<◌, ◌-◌, suc, zero, arith, ◌+◌, drop, add-one}
use Rattle.std.proofs.lemmas.List.{length-map, drop_all}
use Rattle.std.specs.Prelude.{slice_get, is_none, Bool, true, false, Option, Some, None}
use Rattle.std.specs.Option.{option_map, option_eq}
use Rattle.std.specs.Cmp.Lexicographic.{pointwise}
use Rattle.fm_grammar.specs.Exposition.{Label}
use Rattle.fm_exposition.specs.Same.{same_label}

pub slice_get-front : {X : Type 0} (xs ys : List X) (i : ℕ) → i < length xs → slice_get (xs ++ ys) i ≡ slice_get xs i
slice_get-front [] ys i within = absurd (omega arith)
slice_get-front (x ∷ xs) ys zero within = refl
slice_get-front (x ∷ xs) ys (suc i) within = slice_get-front xs ys i (omega arith)

pub slice_get-back : {X : Type 0} (xs ys : List X) (i : ℕ) → length xs ≤ i → slice_get (xs ++ ys) i ≡ slice_get ys (i - length xs)
slice_get-back [] ys i past = ap (slice_get ys) (omega arith)
slice_get-back (x ∷ xs) ys zero past = absurd (omega arith)
slice_get-back (x ∷ xs) ys (suc i) past = slice_get-back xs ys i (omega arith) ∙ ap (slice_get ys) (omega arith)

drop_nil : (i : ℕ) → drop {A = Label} i [] ≡ []
drop_nil zero = refl
drop_nil (suc i) = refl

-- an index where the lists differ
pub differ_at : (xs ys : List Label) (i : ℕ) → false ≡ option_eq same_label (slice_get xs i) (slice_get ys i) → false ≡ pointwise same_label (drop i xs) (drop i ys)
differ_at [] [] i e = absurd (Prim.cc)
differ_at [] (y ∷ ys) zero e = refl
differ_at [] (y ∷ ys) (suc i) e = rw (drop_nil i) at (differ_at [] ys i e)
differ_at (x ∷ xs) [] zero e = refl
differ_at (x ∷ xs) [] (suc i) e = rw (drop_nil i) at (differ_at xs [] i e)
differ_at (x ∷ xs) (y ∷ ys) zero e = rw (← e) refl
differ_at (x ∷ xs) (y ∷ ys) (suc i) e = differ_at xs ys i e

-- both end here
pub end_at : (xs ys : List Label) (i : ℕ) → length xs ≤ i → length ys ≤ i → true ≡ pointwise same_label (drop i xs) (drop i ys)
end_at xs ys i one other = rw (drop_all i xs one, drop_all i ys other) refl

some_at : (xs : List Label) (i : ℕ) → i < length xs → is_none (slice_get xs i) ≡ false
some_at [] i within = absurd (omega arith)
some_at (x ∷ xs) zero within = refl
some_at (x ∷ xs) (suc i) within = some_at xs i (omega arith)

missing : (o : Option Label) → true ≡ option_eq same_label o None → is_none o ≡ false → ⊥
missing None e some = Prim.cc
missing (Some x) e some = Prim.cc

same_at_suc : (xs ys : List Label) (i : ℕ) → true ≡ option_eq same_label (slice_get xs i) (slice_get ys i) → is_none (slice_get xs i) ≡ false → pointwise same_label (drop (suc i) xs) (drop (suc i) ys) ≡ pointwise same_label (drop i xs) (drop i ys)
same_at_suc [] ys i e some = absurd (Prim.cc)
same_at_suc (x ∷ xs) [] i e some = absurd (missing (slice_get (x ∷ xs) i) e some)
same_at_suc (x ∷ xs) (y ∷ ys) zero e some = rw (← e) refl
same_at_suc (x ∷ xs) (y ∷ ys) (suc i) e some = same_at_suc xs ys i e some

-- the same here, and what comes after decides
pub same_at : (xs ys : List Label) (i : ℕ) → true ≡ option_eq same_label (slice_get xs i) (slice_get ys i) → is_none (slice_get xs i) ≡ false → pointwise same_label (drop (i + 1) xs) (drop (i + 1) ys) ≡ pointwise same_label (drop i xs) (drop i ys)
same_at xs ys i e some = rw add-one (same_at_suc xs ys i e some)

-- the same two for what was read at the index
pub read_differ : {P : Type 0} (f : P → Label) (xs ys : List Label) (i : ℕ) (a b : Option P) (r : Bool) → r ≡ option_eq same_label (option_map f a) (option_map f b) → option_map f a ≡ slice_get xs i → option_map f b ≡ slice_get ys i → r ≡ false → false ≡ pointwise same_label (drop i xs) (drop i ys)
read_differ f xs ys i a b r is a_is b_is told = differ_at xs ys i (rw (← a_is, ← b_is, ← is) (sym told))

pub read_same : {P : Type 0} (f : P → Label) (xs ys : List Label) (i : ℕ) (a b : Option P) (r : Bool) → r ≡ option_eq same_label (option_map f a) (option_map f b) → option_map f a ≡ slice_get xs i → option_map f b ≡ slice_get ys i → r ≡ true → i < length xs → pointwise same_label (drop (i + 1) xs) (drop (i + 1) ys) ≡ pointwise same_label (drop i xs) (drop i ys)
read_same f xs ys i a b r is a_is b_is told within = same_at xs ys i (rw (← a_is, ← b_is, ← is) (sym told)) (some_at xs i within)

pub ruleset lengths = (length-append, length-map)

pub ruleset gets = (slice_get-front, slice_get-back)
