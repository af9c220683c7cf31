-- Labels that are written of each member.
use Rattle.std.proofs.Common.{◌≡◌, ℕ, zero, suc, List, [], ◌∷◌, ◌++◌, length, take, Option, Some, None, IfSome, slice_get, get_or, Bor, option_copied, refl, sym, ◌∙◌, ap}
use Rattle.std.specs.Map.{keys_of}
use Rattle.std.proofs.lemmas.List.{map-append}
use Rattle.std.proofs.Math.Seq.{take-append_seam}
use Rattle.fm_encoder.specs.Exposition.{Label}
use Rattle.fm_labels.specs.Labels.{EmittedLabel}
use Rattle.fm_labels.specs.WrittenLabels.{AreWritten}
use Rattle.fm_family.specs.inside.MemberLabels.{HaveLabels}

zip_push : {L : Type 0} (labels : L → List EmittedLabel) (keys : List L) (written : List (Option (List Label))) (key : L) (k : Option (List Label)) → HaveLabels labels keys written → IfSome k (AreWritten (labels key)) → HaveLabels labels (keys ++ key ∷ []) (written ++ k ∷ [])
zip_push labels [] [] key k h one = (one, tt)
zip_push labels [] (x ∷ written) key k h one = absurd h
zip_push labels (y ∷ keys) [] key k h one = absurd h
zip_push labels (y ∷ keys) (x ∷ written) key k h one = (h.0, zip_push labels keys written key k h.1 one)

-- one member more
pub written_push : {L M : Type 0} (labels : L → List EmittedLabel) (old new : List (L × M)) (written : List (Option (List Label))) (key : L) (metric : M) (k : Option (List Label)) → new ≡ old ++ (key, metric) ∷ [] → HaveLabels labels (keys_of old) written → IfSome k (AreWritten (labels key)) → HaveLabels labels (keys_of new) (written ++ k ∷ [])
written_push labels old new written key metric k added h one =
    rw (added, map-append) (zip_push labels (keys_of old) written key k h one)

-- there are as many as members
pub written_count : {L M : Type 0} (labels : L → List EmittedLabel) (es : List (L × M)) (written : List (Option (List Label))) → HaveLabels labels (keys_of es) written → length written ≡ length es
written_count labels [] [] h = refl
written_count labels [] (x ∷ written) h = absurd h
written_count labels (e ∷ es) [] h = absurd h
written_count labels (e ∷ es) (x ∷ written) h = ap suc (written_count labels es written h.1)

-- those of a member
pub written_at : {L M : Type 0} (labels : L → List EmittedLabel) (es : List (L × M)) (written : List (Option (List Label))) (i : ℕ) (p : L × M) (k : Option (List Label)) → HaveLabels labels (keys_of es) written → Some p ≡ slice_get es i → k ≡ get_or written i k → IfSome k (AreWritten (labels p.0))
written_at labels [] written zero p k h at has = absurd cc
written_at labels [] written (suc i) p k h at has = absurd cc
written_at labels (e ∷ es) [] i p k h at has = absurd h
written_at labels (e ∷ es) (x ∷ written) zero p k h at has =
    let same : e ≡ p = cc in
    rw (← same, has) h.0
written_at labels (e ∷ es) (x ∷ written) (suc i) p k h at has = written_at labels es written i p k h.1 at has

-- what holds of a value that is lent
pub lent_if : {K : Type 0} (P : K → Type 0) (lent : Option (Bor K)) (k : Option K) → option_copied lent ≡ k → IfSome k P → IfSome lent (λ r. P r.now)
lent_if P None k is h = tt
lent_if P (Some r) k is h = rw (← is) at h

-- a member that was not added after all
pub written_cut : {L M : Type 0} (labels : L → List EmittedLabel) (old new : List (L × M)) (written longer cut : List (Option (List Label))) (k : Option (List Label)) (count : ℕ) → new ≡ old → HaveLabels labels (keys_of old) written → longer ≡ written ++ k ∷ [] → count ≡ length old → cut ≡ take count longer → HaveLabels labels (keys_of new) cut
written_cut labels old new written longer cut k count same h pushed counted is =
    let whole : cut ≡ written = is ∙ (λ i. take ((counted ∙ sym (written_count labels old written h)) i) (pushed i)) ∙ take-append_seam written (k ∷ []) in
    rw (same, whole) h
