-- The counts of the members of a family by label names.
use Rattle.std.proofs.Common.{◌≡◌, ℕ, zero, suc, ◌<◌, ◌≤◌, ◌+◌, Bool, true, false, if◌then◌else◌, List, [], ◌∷◌, ◌++◌, length, take, set, get_or, swap, refl, sym, ap, ◌∙◌, arith, length-append, Any, Option, None, Some, MatchOption, Result, Ok, Err, OnOk, OnErr, ◌⊎◌, inl, inr}
use Rattle.std.proofs.lemmas.List.{length-take}
use Rattle.std.proofs.lemmas.List.Edits.{length-swap}
use Rattle.std.specs.Cmp.{IsEquivalence, on_equiv}
use Rattle.std.specs.Cmp.Lexicographic.{nat_list_eq_equiv}
use Rattle.std.specs.List.{AllByRecursion, IsDistinct}
use Rattle.std.specs.Map.{keys_of, lookup}
use Rattle.fm_raw.specs.declared.error.MetricError.{MetricError}
use Rattle.indexmap.specs.IndexMap.{shift_remove_entry}
use Rattle.indexmap.proofs.MapLemmas.{distinct-take}
use Rattle.fm_grammar.specs.Exposition.{Text}
use Rattle.fm_labels.specs.LabelValues.{joined, values_eq}
use Rattle.fm_encoder.specs.Points.{Point, Member}
use Rattle.fm_family.specs.Members.{OffersFirst, MayFault}
use Rattle.fm_family.specs.VecMembers.{OffersNamed, named_labels, NeverFaults, FindsOrAdds}
use Rattle.fm_family.specs.inside.VecCode.{AreCounted}
use Rattle.fm_family.proofs.MemberLemmas.{keys_of-take}

-- two lists of values are the same, or not
pub values_laws : IsEquivalence values_eq
values_laws = on_equiv joined nat_list_eq_equiv

module _ {X : Type 0} (P : X → Type 0) where
  all_push : (xs : List X) (x : X) → AllByRecursion P xs → P x → AllByRecursion P (xs ++ x ∷ [])
  all_push [] x all one = (one, tt)
  all_push (y ∷ xs) x all one = (all.0, all_push xs x all.1 one)

  all_take : (n : ℕ) (xs : List X) → AllByRecursion P xs → AllByRecursion P (take n xs)
  all_take zero xs all = tt
  all_take (suc n) [] all = tt
  all_take (suc n) (x ∷ xs) all = (all.0, all_take n xs all.1)

  all_set : (xs : List X) (i : ℕ) (x : X) → AllByRecursion P xs → P x → AllByRecursion P (set xs i x)
  all_set [] i x all one = tt
  all_set (y ∷ xs) zero x all one = (one, all.1)
  all_set (y ∷ xs) (suc i) x all one = (all.0, all_set xs i x all.1 one)

  all_get : (xs : List X) (i : ℕ) (x : X) → AllByRecursion P xs → P x → P (get_or xs i x)
  all_get [] i x all one = one
  all_get (y ∷ xs) zero x all one = all.0
  all_get (y ∷ xs) (suc i) x all one = all_get xs i x all.1 one

  all_swap : (xs : List X) (i j : ℕ) → AllByRecursion P xs → AllByRecursion P (swap xs i j)
  all_swap [] i j all = tt
  all_swap (x ∷ xs) i j all = all_set _ j _ (all_set (x ∷ xs) i _ all (all_get (x ∷ xs) j x all all.0)) (all_get (x ∷ xs) i x all all.0)

module _ {M : Type 0} (count limit : ℕ) (entries : List (List Text × M)) (counted : AreCounted count limit entries) where
  -- one member more
  pub counted_push : (values : List Text) (metric : M) → length values ≡ count → length entries < limit → AreCounted count limit (entries ++ (values, metric) ∷ [])
  counted_push values metric long room = record {
    values = all_push (λ (entry : List Text × M). length entry.0 ≡ count) entries (values, metric) counted.values long;
    within = simp length-append (omega arith);
  }

  -- the first members
  pub counted_take : (n : ℕ) → AreCounted count limit (take n entries)
  counted_take n = record {
    values = all_take (λ (entry : List Text × M). length entry.0 ≡ count) n entries counted.values;
    within = let within = counted.within in simp length-take (omega arith);
  }

  -- two members exchanged
  pub counted_swap : (i j : ℕ) → AreCounted count limit (swap entries i j)
  counted_swap i j = record {
    values = all_swap (λ (entry : List Text × M). length entry.0 ≡ count) entries i j counted.values;
    within = let within = counted.within in simp length-swap (omega arith);
  }

-- a member less
pub counted_remove : {M : Type 0} (count limit : ℕ) (entries : List (List Text × M)) → AreCounted count limit entries → (test : List Text → Bool) → AreCounted count limit (shift_remove_entry test entries)
counted_remove {M} count limit entries counted test = record { values = values entries counted.values; within = let within = counted.within in let fewer = fewer entries in omega arith }
  where
    values : (es : List (List Text × M)) → AllByRecursion (λ entry. length entry.0 ≡ count) es → AllByRecursion (λ entry. length entry.0 ≡ count) (shift_remove_entry test es)
    values [] all = tt
    values (e ∷ es) all = elim (test e.0) as (λ b. AllByRecursion (λ entry. length entry.0 ≡ count) (if b then es else e ∷ shift_remove_entry test es)) [ true ↦ all.1 | false ↦ (all.0, values es all.1) ]

    fewer : (es : List (List Text × M)) → length (shift_remove_entry test es) ≤ length es
    fewer [] = omega arith
    fewer (e ∷ es) = let rest = fewer es in elim (test e.0) as (λ b. length (if b then es else e ∷ shift_remove_entry test es) ≤ suc (length es)) [ true ↦ omega arith | false ↦ omega arith ]

-- a member that was inserted, or not
pub counted_insert : {M E : Type 0} (count limit : ℕ) (old new : List (List Text × M)) (result : Result (Option M) E) → AreCounted count limit old → (values : List Text) (metric : M) → length values ≡ count → length old < limit
    → OnOk result (new ≡ old ++ (values, metric) ∷ []) → OnErr result (new ≡ old) → AreCounted count limit new
counted_insert count limit old new (Ok x) counted values metric long room added same = rw added (counted_push count limit old counted values metric long room)
counted_insert count limit old new (Err e) counted values metric long room added same = rw same counted

-- what holds at `Ok`, from what holds there
pub ok_then : {A E : Type 0} (r : Result A E) (P Q : Type 0) → (P → Q) → OnOk r P → OnOk r Q
ok_then (Ok x) P Q from p = from p
ok_then (Err e) P Q from p = tt

-- the first of members of a family by names have its names, as many values, and no two the same
pub first_named : {M : Type 0} (names : List Text) (Points : M → List Point → Type 0) (pairs : List (List Text × M)) → IsDistinct values_eq (keys_of pairs) → AllByRecursion (λ pair. length pair.0 ≡ length names) pairs
    → (ms : List Member) → OffersFirst (named_labels names) Points pairs ms → OffersNamed names Points ms
first_named {M} names Points pairs different long ms (n, offered) =
    (take n pairs, rw keys_of-take (distinct-take values_laws n (keys_of pairs) different), all_take (λ (pair : List Text × M). length pair.0 ≡ length names) n pairs long, offered)

-- no members
pub nothing_named : {M : Type 0} (names : List Text) (Points : M → List Point → Type 0) → OffersNamed names Points []
unfolding IsDistinct
nothing_named names Points = ([], tt, tt, refl)

-- a fault of a pair whose values have none is that of its metric
pub metric_fault : {M : Type 0} (F : M → Type 0) (pairs : List (List Text × M)) → Any (MayFault NeverFaults F) pairs → (metric : M) × F metric
metric_fault F pairs fault = (fault.1.1, elim fault.4 [ inl none ↦ absurd none | inr own ↦ own ])

-- a look-up whose result tells something else of the metric
module _ {M A B : Type 0} (promises : Result M MetricError → Type 0) (limit : ℕ) (values : List Text) (old new : List (List Text × M)) (tells : A → M → Type 0) (tells' : B → M → Type 0) where
  finds_by : (found : Option M) (a : A) (b : B) → ((m : M) → tells a m → tells' b m)
      → MatchOption found ((m : M) × promises (Ok m) × (length old < limit) × (new ≡ old ++ (values, m) ∷ []) × tells a m) (λ m. (new ≡ old) × tells a m)
      → MatchOption found ((m : M) × promises (Ok m) × (length old < limit) × (new ≡ old ++ (values, m) ∷ []) × tells' b m) (λ m. (new ≡ old) × tells' b m)
  finds_by None a b so h = (h.0, h.1, h.2, h.3, so h.0 h.4)
  finds_by (Some m) a b so h = (h.0, so m h.1)

  pub FindsOrAdds-tells : (a : A) (b : B) → ((m : M) → tells a m → tells' b m) → FindsOrAdds promises limit values old new tells (Ok a) → FindsOrAdds promises limit values old new tells' (Ok b)
  FindsOrAdds-tells a b so h = finds_by (lookup (values_eq values) old) a b so h

-- a metric that is there
pub FindsOrAdds-found : {M A : Type 0} (promises : Result M MetricError → Type 0) (limit : ℕ) (values : List Text) (old : List (List Text × M)) (tells : A → M → Type 0) (a : A) (m : M) → Some m ≡ lookup (values_eq values) old → tells a m → FindsOrAdds promises limit values old old tells (Ok a)
FindsOrAdds-found promises limit values old tells a m is told = rw (← is) (refl, told)
