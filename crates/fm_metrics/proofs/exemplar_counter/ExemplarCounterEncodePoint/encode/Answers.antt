use Rattle.std.proofs.Common.{◌≡◌, List, [], ◌∷◌, ◌⊎◌, MatchOption, Option, Some, None, inl, inr, refl}
use Rattle.fm_encoder.proofs.MemberLemmas.{EmitsPoints-weaker}
use Rattle.fm_metrics.proofs.exemplar_counter.ExemplarCounterEncodePoint.encode.Goals as goal

-- an exemplar of such labels never returns an error of its own
no_fault : {E : Type 0} (o : Option E) → MatchOption o ⊥ (λ _. ⊥) → ⊥
no_fault None h = h
no_fault (Some e) h = h

pub returns : goal.returns
returns g c =
    EmitsPoints-weaker _ _ _
    (λ ps is. (c.get-total.result, _, c.get-total.ensures, c.lent.ensures, rw c.deref-3.ensures at is))
    (λ either. elim either [ inl of_total ↦ (c.get-total.result, c.get-total.ensures, of_total) | inr of_exemplar ↦ absurd (no_fault _ of_exemplar) ])
    c.encode_counter.ensures.emitted
