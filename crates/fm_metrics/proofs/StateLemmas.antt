-- What follows from the laws of `==` for the states of a state set.
use Rattle.std.proofs.Common.{◌≡◌, ◌≢◌, ℕ, zero, suc, ◌+◌, ◌<◌, Bool, true, false, cond, List, [], ◌∷◌, map, slice_get, Some, inl, inr, refl, sym, ap, ◌∙◌, count_by, below_more, arith}
use Rattle.std.proofs.Math.Logic.{∥∥₁_map}
use Rattle.std.proofs.lemmas.Bool.{cases_order}
use Rattle.std.proofs.lemmas.List.Recursion.{is_count_by}
use Rattle.std.specs.Cmp.{IsPartialEquivalence}
use denote.Ref.{Bor}
use Rattle.fm_encoder.specs.States.{state_of}
use Rattle.fm_metrics.specs.StateSets.{AreDifferent, IsState, states_at}

module _ {T : Type 0} (eq : T → T → Bool) where
  -- a state that equals something equals itself
  pub equals_itself : IsPartialEquivalence eq → (x state : T) → eq x state ≡ true → eq x x ≡ true
  equals_itself laws x state h = laws.trans x state x h (sym (laws.symm x state) ∙ h)

  -- a search goes on: no state so far equals the one that is sought
  pub no_match_more : (xs : List T) (i : ℕ) (x state : T) → slice_get xs i ≡ Some x → eq x state ≡ false
      → ((k : ℕ) → k < i → (y : T) → slice_get xs k ≡ Some y → eq y state ≡ false)
      → (k : ℕ) → k < i + 1 → (y : T) → slice_get xs k ≡ Some y → eq y state ≡ false
  no_match_more xs i x state at differs before = below_more _ _ before (λ y yat. let e : Some x ≡ Some y = sym at ∙ yat in let f : x ≡ y = cc in rw (← f) differs)

  -- what differs from an equal of the state differs from the state
  differs_too : IsPartialEquivalence eq → (y x state : T) → eq x state ≡ true → eq y x ≡ false → (b : Bool) → eq y state ≡ b → b ≡ false
  differs_too laws y x state h apart false is = refl
  differs_too laws y x state h apart true is = let bad : eq y x ≡ true = laws.trans y state x is (sym (laws.symm x state) ∙ h) in cc

-- how many pass, by cases on the list
abbrev how_many : {X : Type 0} → (X → Bool) → List X → ℕ
how_many p [] = 0
how_many p (x ∷ xs) = cond (p x) (1 + how_many p xs) (how_many p xs)

count_is : {X : Type 0} (p : X → Bool) (xs : List X) → how_many p xs ≡ count_by p xs
count_is p xs = is_count_by (how_many p) p refl (λ x ys. refl) xs

none_pass : {X : Type 0} (p : X → Bool) (xs : List X) → ((j : ℕ) (y : X) → slice_get xs j ≡ Some y → p y ≡ false) → how_many p xs ≡ 0
none_pass p [] none = refl
none_pass p (x ∷ xs) none = let h : p x ≡ false = none 0 x refl in rw h (none_pass p xs (λ j y at. none (suc j) y at))

one_passes : {X : Type 0} (p : X → Bool) (xs : List X) (i : ℕ) (x : X) → slice_get xs i ≡ Some x → p x ≡ true
    → ((j : ℕ) (y : X) → slice_get xs j ≡ Some y → j ≢ i → p y ≡ false) → how_many p xs ≡ 1
one_passes p [] i x at passes others = cc at
one_passes p (y ∷ xs) zero x at passes others =
    let e : Some y ≡ Some x = at in let f : y ≡ x = cc in let h : p y ≡ true = rw f passes in
    rw h (ap (λ n. 1 + n) (none_pass p xs (λ j z here. others (suc j) z here (λ bad. absurd (omega (arith, bad))))))
one_passes p (y ∷ xs) (suc i) x at passes others =
    let h : p y ≡ false = others 0 y refl (λ bad. absurd (omega (arith, bad))) in
    rw h (one_passes p xs i x at passes (λ j z here apart. others (suc j) z here (λ bad. apart (omega (arith, bad)))))

count_told : (xs : List (Bor (List ℕ) × Bool)) → how_many (λ p. p.1) xs ≡ how_many (λ p. p.1) (map state_of xs)
count_told [] = refl
count_told (x ∷ xs) = ap (λ n. cond x.1 (1 + n) n) (count_told xs)

count_states : {T : Type 0} (eq : T → T → Bool) (all : List T) (text : T → List ℕ) (c : T) → how_many (λ p. p.1) (states_at eq all text c) ≡ how_many (λ x. eq x c) all
count_states eq [] text c = refl
count_states eq (x ∷ xs) text c = ap (λ n. cond (eq x c) (1 + n) n) (count_states eq xs text c)

-- if no two states are equal, exactly one is the current one
pub one_state : {T : Type 0} (eq : T → T → Bool) → IsPartialEquivalence eq → (all : List T) (text : T → List ℕ) (c : T) → IsState eq all c → AreDifferent eq all
    → count_by (λ p. p.1) (states_at eq all text c) ≡ 1
one_state {T} eq laws all text c (i, x, at, equals) apart =
    sym (count_is (λ p. p.1) (states_at eq all text c)) ∙ count_states eq all text c ∙ one_passes (λ x. eq x c) all i x at equals others
  where
    others : (j : ℕ) (y : T) → slice_get all j ≡ Some y → j ≢ i → eq y c ≡ false
    others j y here other = differs_too eq laws y x c equals (elim (cases_order j i) [
      | inl same ↦ absurd (other same)
      | inr h ↦ elim h [ inl before ↦ apart j i y x before here at | inr after ↦ laws.symm y x ∙ apart i j x y after at here ]
    ]) (eq y c) refl

-- the same of a list that tells the states
pub one_told : {T : Type 0} (eq : T → T → Bool) → IsPartialEquivalence eq → (all : List T) (text : T → List ℕ) (c : T) (told : List (Bor (List ℕ) × Bool))
    → IsState eq all c → map state_of told ≡ states_at eq all text c → AreDifferent eq all → count_by (λ p. p.1) told ≡ 1
one_told eq laws all text c told known is apart =
    sym (count_is (λ p. p.1) told) ∙ count_told told ∙ ap (λ l. how_many (λ p. p.1) l) is ∙ count_is (λ p. p.1) (states_at eq all text c)
    ∙ one_state eq laws all text c known apart

-- what equals a state that is known is known
pub known_equal : {T : Type 0} (eq : T → T → Bool) → IsPartialEquivalence eq → (all : List T) (state other : T) → eq state other ≡ true → ∥ IsState eq all state ∥₁ → ∥ IsState eq all other ∥₁
known_equal eq laws all state other same known = ∥∥₁_map known (λ (here : IsState eq all state). (here.0, here.1, here.2, laws.trans here.1 state other here.3 same))
