-- Slots of exemplars, while values are counted.
use Rattle.std.proofs.Common.{◌≡◌, ℕ, suc, zero, ◌+◌, ◌<◌, Bool, true, false, ◌&&◌, cond, is_ok, is_lt, int_cmp, ℤ, pos, List, [], ◌∷◌, ◌++◌, Option, Some, None, Result, Ok, Err, length, map, set, filter, refl, sym, subst, ap, ◌∙◌, arith}
use Rattle.std.specs.Prelude.{slice_get, All}
use Rattle.std.specs.Borrow.{Bor}
use Rattle.std.specs.List.{AllByRecursion}
use Rattle.std.proofs.lemmas.Int.{ints}
use Rattle.std.proofs.lemmas.List.{length-set, length-map, map_push}
use Rattle.std.proofs.lemmas.List.Elements.{All-head, All-tail}
use Rattle.fm_raw.specs.declared.bucket.bound.Bucket.{Bucket}
use Rattle.fm_raw.specs.declared.error.MetricError.{MetricError}
use Rattle.fm_encoder.specs.Points.{EmittedExemplar, ExemplarValid}
use Rattle.fm_encoder.specs.declared.exemplar.labeled.LabeledExemplar.{LabeledExemplar}
use Rattle.fm_encoder.specs.declared.exemplar.exemplar_labels.ExemplarLabels.{ExemplarLabels}
use Rattle.fm_histogram.specs.Histogram.{Histogram, IsCounts, IsHistogram, CountsTaken, is_taken, index, index_among}
use Rattle.fm_histogram.specs.inside.Slots.{emitted}
use Rattle.fm_histogram.specs.Observing.{Observes}
use Rattle.fm_histogram.specs.Exemplars.{WithExemplars, LiesAt, SlotsFit, ExemplarsFit, ObservesAlone, ObservesWith}
use Rattle.fm_histogram.proofs.BucketLemmas.{and_right, index_is, index_within, count_of_buckets}

-- an exemplar as it is kept
abbrev Kept : Type 0
Kept = LabeledExemplar ExemplarLabels

-- a filter keeps what passes
filter_all : (p : ℤ → Bool) (xs : List ℤ) → All (λ x. p x ≡ true) xs → filter p xs ≡ xs
filter_all p [] h = refl
filter_all p (x ∷ xs) h = rw (All-head (λ y. p y ≡ true) x xs h, filter_all p xs (All-tail (λ y. p y ≡ true) x xs h)) refl

-- the index and the number of buckets of some values, by the bounds
index_of_counts : (bounds xs : List ℤ) (s : Histogram) (x : ℤ) → IsCounts bounds xs s → index x s.buckets ≡ index_among x bounds
index_of_counts bounds xs s x h = rw h.is (index_is None bounds xs x)

length_of_counts : (bounds xs : List ℤ) (s : Histogram) → IsCounts bounds xs s → length s.buckets ≡ length bounds + 1
length_of_counts bounds xs s h = rw h.is (count_of_buckets None bounds xs)

-- both stay where a value is observed
pub index_kept : (p : ℤ → Bool) (value : ℤ) (old new : Histogram) (r : Result (Unit {0}) MetricError) (x : ℤ) → CountsTaken p old → Observes p value old new r → index x new.buckets ≡ index x old.buckets
index_kept p value old new (Ok v) x some done =
    let after : IsHistogram p some.bounds (some.values ++ value ∷ []) new = done.counted some.bounds some.values (rw (filter_all p some.values some.values_taken) some.is) in
    index_of_counts _ _ new x after ∙ sym (index_of_counts _ _ old x some.is)
index_kept p value old new (Err e) x some done = ap (λ (s : Histogram). index x s.buckets) done.kept

pub length_kept : (p : ℤ → Bool) (value : ℤ) (old new : Histogram) (r : Result (Unit {0}) MetricError) → CountsTaken p old → Observes p value old new r → length new.buckets ≡ length old.buckets
length_kept p value old new (Ok v) some done =
    let after : IsHistogram p some.bounds (some.values ++ value ∷ []) new = done.counted some.bounds some.values (rw (filter_all p some.values some.values_taken) some.is) in
    length_of_counts _ _ new after ∙ sym (length_of_counts _ _ old some.is)
length_kept p value old new (Err e) some done = ap (λ (s : Histogram). length s.buckets) done.kept

-- a value's bucket is one of them
pub index_inside : (p : ℤ → Bool) (s : Histogram) (x : ℤ) → CountsTaken p s → index x s.buckets < length s.buckets
index_inside p s x some = omega (arith, index_of_counts _ _ s x some.is, length_of_counts _ _ s some.is, index_within some.bounds x)

-- what holds of each item at its index still does with one exchanged for another, or one more
pub set_at : {X : Type 0} (P : ℕ → X → Type 0) (xs : List X) (i : ℕ) (y : X) → P i y → ((j : ℕ) (x : X) → slice_get xs j ≡ Some x → P j x)
    → (j : ℕ) (x : X) → slice_get (set xs i y) j ≡ Some x → P j x
set_at P [] i y here all j x e = all j x e
set_at P (z ∷ zs) zero y here all zero x e = subst (P 0) (cc) here
set_at P (z ∷ zs) zero y here all (suc j) x e = all (suc j) x e
set_at P (z ∷ zs) (suc i) y here all zero x e = all zero x e
set_at P (z ∷ zs) (suc i) y here all (suc j) x e = set_at (λ k. P (suc k)) zs i y here (λ k. all (suc k)) j x e

pub push_at : {X : Type 0} (P : ℕ → X → Type 0) (xs : List X) (y : X) → P (length xs) y → ((j : ℕ) (x : X) → slice_get xs j ≡ Some x → P j x)
    → (j : ℕ) (x : X) → slice_get (xs ++ y ∷ []) j ≡ Some x → P j x
push_at P [] y here all zero x e = subst (P 0) (cc) here
push_at P [] y here all (suc j) x e = absurd (cc)
push_at P (z ∷ zs) y here all zero x e = all zero x e
push_at P (z ∷ zs) y here all (suc j) x e = push_at (λ k. P (suc k)) zs y here (λ k. all (suc k)) j x e

-- a value that is not below zero counts
pub not_below : (v : ℤ) → false ≡ is_lt (int_cmp v (pos 0)) → is_taken v ≡ true
not_below v h = grind (arith, ints)

-- the exemplars still fit where a value is observed without one
pub fit_alone : (value : ℤ) (old new : WithExemplars) (r : Result (Unit {0}) MetricError) → ExemplarsFit old → CountsTaken is_taken new.counted → ObservesAlone value old new r → ExemplarsFit new
fit_alone value old new r h counts done = record {
  counts = counts;
  slots = ap length done.same ∙ (h.slots ∙ sym (length_kept is_taken value old.counted new.counted r h.counts done.observes));
  fit = λ i e at.
      let lies = h.fit i e (subst (λ slots. slice_get slots i ≡ Some (Some e)) done.same at) in
      record { taken = lies.taken; here = index_kept is_taken value old.counted new.counted r e.value h.counts done.observes ∙ lies.here };
}

-- and with one
fit_by : (e : Kept) (old new : WithExemplars) (r : Result (Unit {0}) MetricError) → ExemplarsFit old → CountsTaken is_taken new.counted → Observes is_taken e.value old.counted new.counted r
    → (b : Bool) → (is_ok r && is_taken e.value) ≡ b → new.last ≡ cond b (set old.last (index e.value old.counted.buckets) (Some e)) old.last → ExemplarsFit new
fit_by e old new r h counts done false is last = fit_alone e.value old new r h counts (record { observes = done; same = last })
fit_by e old new r h counts done true is last = record {
  counts = counts;
  slots = ap length last ∙ (length-set old.last (index e.value old.counted.buckets) (Some e) ∙ (h.slots ∙ sym (length_kept is_taken e.value old.counted new.counted r h.counts done)));
  fit = λ i x at.
      let P : ℕ → Option Kept → Type 0 = λ j slot. (y : Kept) → slot ≡ Some y → LiesAt new.counted.buckets j y.value in
      let stays = λ (j : ℕ) (y : Kept). index_kept is_taken e.value old.counted new.counted r y.value h.counts done in
      let here : P (index e.value old.counted.buckets) (Some e) = λ y same. let s : e ≡ y = cc in subst (λ (z : Kept). LiesAt new.counted.buckets (index e.value old.counted.buckets) z.value) s (record { taken = and_right (is_ok r) (is_taken e.value) is; here = stays 0 e }) in
      let others : (j : ℕ) (slot : Option Kept) → slice_get old.last j ≡ Some slot → P j slot = λ j slot there y same. let lies = h.fit j y (there ∙ ap (λ s. Some s) same) in record { taken = lies.taken; here = stays j y ∙ lies.here } in
      set_at P old.last (index e.value old.counted.buckets) (Some e) here others i (Some x) (subst (λ slots. slice_get slots i ≡ Some (Some x)) last at) x refl;
}

pub fit_with : (e : Kept) (old new : WithExemplars) (r : Result (Unit {0}) MetricError) → ExemplarsFit old → CountsTaken is_taken new.counted → ObservesWith e old new r → ExemplarsFit new
fit_with e old new r h counts done = fit_by e old new r h counts done.observes (is_ok r && is_taken e.value) refl done.last

-- one slot more
pub slots_more : (buckets : List Bucket) (slots : List (Option (Bor Kept))) (slot : Option (Bor Kept)) (i : ℕ) → length slots ≡ i → SlotsFit buckets (map emitted slots) → ((e : EmittedExemplar) → emitted slot ≡ e ∷ [] → LiesAt buckets i e.value)
    → SlotsFit buckets (map emitted (slots ++ slot ∷ []))
slots_more buckets slots slot i long slots_fit here = record {
  fit = λ j e at.
      let P : ℕ → List EmittedExemplar → Type 0 = λ k es. (y : EmittedExemplar) → es ≡ y ∷ [] → LiesAt buckets k y.value in
      let last : P (length (map emitted slots)) (emitted slot) = subst (λ k. P k (emitted slot)) (sym (length-map slots emitted ∙ long)) here in
      push_at P (map emitted slots) (emitted slot) last (λ k es there y same. slots_fit.fit k y (there ∙ ap (λ s. Some s) same)) j (e ∷ []) (subst (λ es. slice_get es j ≡ Some (e ∷ [])) (map_push emitted slots slot) at) e refl;
}

pub valid_more : (slots : List (Option (Bor Kept))) (slot : Option (Bor Kept)) → AllByRecursion ExemplarValid (map emitted slots) → ExemplarValid (emitted slot) → AllByRecursion ExemplarValid (map emitted (slots ++ slot ∷ []))
valid_more [] slot all valid = (valid, tt)
valid_more (s ∷ slots) slot all valid = (all.0, valid_more slots slot all.1 valid)
