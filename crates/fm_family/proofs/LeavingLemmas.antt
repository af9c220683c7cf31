-- Members that leave a family: the labels that are written beside the others, and what the calls of a closure keep.
use Rattle.std.proofs.Common.{◌≡◌, ℕ, zero, suc, ◌<◌, Bool, List, [], ◌∷◌, length, take, get_or, set, swap, remove, position, Option, Some, IfSome, refl, ap, ◌∙◌}
use Rattle.std.proofs.lemmas.List.{set-get_or}
use Rattle.std.specs.Map.{keys_of}
use Rattle.indexmap.specs.IndexMap.{shift_remove_entry}
use Rattle.indexmap.proofs.MapLemmas.{Found-position, remove_entry-first}
use Rattle.fm_encoder.specs.Exposition.{Label}
use Rattle.fm_labels.specs.Labels.{EmittedLabel}
use Rattle.fm_labels.specs.WrittenLabels.{AreWritten}
use Rattle.fm_family.specs.inside.MemberLabels.{HaveLabels}

module _ {L M : Type 0} (labels : L → List EmittedLabel) where
  -- of the members at the first indices
  pub written_take : (n : ℕ) (es : List (L × M)) (written : List (Option (List Label))) → HaveLabels labels (keys_of es) written → HaveLabels labels (keys_of (take n es)) (take n written)
  written_take zero es written h = tt
  written_take (suc n) [] [] h = tt
  written_take (suc n) [] (k ∷ written) h = absurd h
  written_take (suc n) (e ∷ es) [] h = absurd h
  written_take (suc n) (e ∷ es) (k ∷ written) h = (h.0, written_take n es written h.1)

  -- of the others, if the member at an index is gone
  pub written_remove : (i : ℕ) (es : List (L × M)) (written : List (Option (List Label))) → HaveLabels labels (keys_of es) written → HaveLabels labels (keys_of (remove es i)) (remove written i)
  written_remove zero [] [] h = tt
  written_remove (suc i) [] [] h = tt
  written_remove i [] (k ∷ written) h = absurd h
  written_remove i (e ∷ es) [] h = absurd h
  written_remove zero (e ∷ es) (k ∷ written) h = h.1
  written_remove (suc i) (e ∷ es) (k ∷ written) h = (h.0, written_remove i es written h.1)

  written_set : (i : ℕ) (es : List (L × M)) (written : List (Option (List Label))) (e : L × M) (k : Option (List Label)) → HaveLabels labels (keys_of es) written → IfSome k (AreWritten (labels e.0)) → HaveLabels labels (keys_of (set es i e)) (set written i k)
  written_set i [] [] e k h one = tt
  written_set i [] (x ∷ written) e k h one = absurd h
  written_set i (y ∷ es) [] e k h one = absurd h
  written_set zero (y ∷ es) (x ∷ written) e k h one = (one, h.1)
  written_set (suc i) (y ∷ es) (x ∷ written) e k h one = (h.0, written_set i es written e k h.1 one)

  written_get : (i : ℕ) (es : List (L × M)) (written : List (Option (List Label))) (e : L × M) (k : Option (List Label)) → HaveLabels labels (keys_of es) written → IfSome k (AreWritten (labels e.0)) → IfSome (get_or written i k) (AreWritten (labels (get_or es i e).0))
  written_get i [] [] e k h one = one
  written_get i [] (x ∷ written) e k h one = absurd h
  written_get i (y ∷ es) [] e k h one = absurd h
  written_get zero (y ∷ es) (x ∷ written) e k h one = h.0
  written_get (suc i) (y ∷ es) (x ∷ written) e k h one = written_get i es written e k h.1 one

  -- if two members are exchanged
  pub written_swap : (i j : ℕ) (es : List (L × M)) (written : List (Option (List Label))) → HaveLabels labels (keys_of es) written → HaveLabels labels (keys_of (swap es i j)) (swap written i j)
  written_swap i j [] [] h = tt
  written_swap i j [] (k ∷ written) h = absurd h
  written_swap i j (e ∷ es) [] h = absurd h
  written_swap i j (e ∷ es) (k ∷ written) h =
      let at = λ (n : ℕ). written_get n (e ∷ es) (k ∷ written) e k h h.0 in
      written_set j _ _ _ _ (written_set i (e ∷ es) (k ∷ written) _ _ h (at j)) (at i)

-- the place of a label set is one of the list
pub index_within : {L M : Type 0} (test : L → Bool) (es : List (L × M)) (i : ℕ) → position test (keys_of es) ≡ Some i → i < length es
index_within test es i found = (Found-position test es i found).within

-- a member went by its index
pub removed_at : {L M : Type 0} (test : L → Bool) (es : List (L × M)) (i : ℕ) → position test (keys_of es) ≡ Some i → shift_remove_entry test es ≡ remove es i
removed_at test es i found = remove_entry-first test es i (Found-position test es i found).first

-- an index that is exchanged with itself
pub swap_same : {X : Type 0} (xs : List X) (i : ℕ) → swap xs i i ≡ xs
swap_same [] i = refl
swap_same (x ∷ xs) i = ap (λ t. set t i (get_or (x ∷ xs) i x)) (set-get_or (x ∷ xs) i x) ∙ set-get_or (x ∷ xs) i x
