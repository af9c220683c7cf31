-- Values that are cut into pieces, and the histograms of the pieces.
use Rattle.std.proofs.Common.{◌≡◌, ◌⊎◌, inl, inr, subst, ℕ, ◌+◌, ◌<◌, ◌≤◌, ℤ, Bool, Option, List, [], ◌∷◌, ◌++◌, None, length, get_or, take, drop, filter, flat_map, ap, sym, ◌∙◌, arith, length-append}
use Rattle.std.specs.Iterator.{Drains}
use Rattle.std.proofs.lemmas.Iterator.{YieldsList, items_from_drains}
use Rattle.std.proofs.Math.Nat.{eq-or-lt_of_le}
use Rattle.std.proofs.lemmas.List.{take_more, take-append-drop, append-nil, map-id, get_or_push, get_or_append_left}
use Rattle.std.proofs.lemmas.List.Concat.{flat_map-append}
use Rattle.std.proofs.lemmas.List.Elements.{filter-append}
use Rattle.fm_histogram.specs.Histogram.{Histogram, IsHistogram, upper_bounds}
use Rattle.fm_histogram.proofs.MergeLemmas.{upper_bounds_same}

-- one piece more
pub joined_more : {X : Type 0} (f : X → List ℤ) (pieces : List X) (i : ℕ) (d : X) → i < length pieces
    → flat_map f (take (i + 1) pieces) ≡ flat_map f (take i pieces) ++ f (get_or pieces i d)
joined_more f pieces i d h =
    rw (take_more pieces i d h) (flat_map-append f (take i pieces) (get_or pieces i d ∷ []) ∙ ap (λ zs. flat_map f (take i pieces) ++ zs) (append-nil (f (get_or pieces i d))))

-- the first pieces have no more values than all
pub fewer : {X : Type 0} (taken : ℤ → Bool) (f : X → List ℤ) (pieces : List X) (n : ℕ) → length (filter taken (flat_map f (take n pieces))) ≤ length (filter taken (flat_map f pieces))
fewer taken f pieces n =
    let e : flat_map f pieces ≡ flat_map f (take n pieces) ++ flat_map f (drop n pieces) =
    sym (ap (flat_map f) (take-append-drop n pieces)) ∙ flat_map-append f (take n pieces) (drop n pieces) in
    let k = ap (λ zs. length (filter taken zs)) e in
    let l = ap length (filter-append taken (flat_map f (take n pieces)) (flat_map f (drop n pieces))) in
    omega (arith, k, l, length-append (filter taken (flat_map f (take n pieces))) (filter taken (flat_map f (drop n pieces))))

-- if two histograms don't fit into one, the joined list has too many values
pub too_many : {X : Type 0} (taken : ℤ → Bool) (f : X → List ℤ) (pieces : List X) (i : ℕ) (d : X) (bounds : List ℤ) (s t : Histogram) (most : ℕ) → i < length pieces
    → IsHistogram taken bounds (flat_map f (take i pieces)) s → IsHistogram taken bounds (f (get_or pieces i d)) t → most ≤ s.count + t.count
    → most ≤ length (filter taken (flat_map f pieces))
too_many taken f pieces i d bounds s t most h k l over =
    let n = ap (λ (z : Histogram). z.count) k.is in
    let m = ap (λ (z : Histogram). z.count) l.is in
    let e = ap (λ zs. length (filter taken zs)) (joined_more f pieces i d h) in
    let e' = ap length (filter-append taken (flat_map f (take i pieces)) (f (get_or pieces i d))) in
    omega (arith, n, m, e, e', fewer taken f pieces (i + 1), over, length-append (filter taken (flat_map f (take i pieces))) (filter taken (f (get_or pieces i d))))

-- histograms by the same bounds have buckets of the same bounds
pub same_bounds : (taken : ℤ → Bool) (bounds xs ys : List ℤ) (s t : Histogram) → IsHistogram taken bounds xs s → IsHistogram taken bounds ys t → upper_bounds s.buckets ≡ upper_bounds t.buckets
same_bounds taken bounds xs ys s t h k = rw (h.is, k.is) (upper_bounds_same None bounds (filter taken xs) (filter taken ys))

-- a list with an index has an element
pub element : {X : Type 0} (xs : List X) (i : ℕ) → i < length xs → X
element [] i h = absurd (omega arith)
element (x ∷ xs) i h = x

-- what was drawn from an iterator whose items are known
pub drained : {S A : Type 0} {steps : S → Option A → S → Type 0} {s : S} {given all : List A} → Drains steps s given → YieldsList steps (λ x. x) s all → given ≡ all
drained {given = given} d e = sym (map-id given) ∙ items_from_drains given (d.1.0, d.1.1, λ _. (d.0, d.1.2)) e

-- what holds of each element at its index, and of one more at the next, holds after a push
pub after_push : {X : Type 0} (P : ℕ → X → Type 0) (old new : List X) (x : X) (n : ℕ) → new ≡ old ++ x ∷ [] → length old ≡ n
    → ((k : ℕ) (d : X) → k < n → P k (get_or old k d)) → P n x → (k : ℕ) (d : X) → k < n + 1 → P k (get_or new k d)
after_push P old new x n is len before last k d h =
    let either : (k ≡ n) ⊎ (k < n) = eq-or-lt_of_le (omega arith) in
    subst (λ l. P k (get_or l k d)) (sym is) (elim either [
      | inl same ↦ subst (P k) (sym (get_or_push old x d k (len ∙ sym same))) (subst (λ i. P i x) (sym same) last)
      | inr below ↦ subst (P k) (sym (get_or_append_left old (x ∷ []) d k (subst (λ i. k < i) (sym len) below))) (before k d below)
    ])
