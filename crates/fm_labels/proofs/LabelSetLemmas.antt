-- One label more in a label set encoder.
use Rattle.std.proofs.Common.{◌≡◌, ℕ, List, [], ◌∷◌, ◌++◌, Option, Some, None, is_some, true, Result, Ok, Err, ◌⊎◌, inl, inr, refl, sym, ◌∙◌, ap, subst, append-nil}
use Rattle.fm_grammar.specs.declared.MetricType.{MetricType}
use Rattle.fm_raw.specs.declared.encode_error.EncodeError.{EncodeError}
use Rattle.fm_raw.specs.declared.encode_error.EncodeError.TheVariants.{Memory}
use Rattle.fm_grammar.specs.Exposition.{Label}
use Rattle.fm_labels.specs.Labels.{EmittedLabel, NamePiece, ValuePiece, NameFits, CannotBegin, IsMalformed, PieceFault, LabelFault, written}
use Rattle.fm_labels.specs.inside.Steps.{pieces_of, EndsLabel}
use Rattle.fm_labels.specs.LabelEncoders.{GatheredPieces, GatheredLabels}
use Rattle.fm_labels.specs.Refusals.{OwnRefusal, own_refusal, result_of}
use Rattle.fm_labels.specs.LabelEncoders.{EmitsPieces, EmitsLabels}
use Rattle.fm_labels.proofs.Cases.{option_cases, answer_cases}

-- what a label set encoder shows of its label encoder
abbrev pub set_of : GatheredPieces → GatheredLabels
set_of g = record { metric_type = g.metric_type; labels = g.labels; refused = g.refused }

-- nothing was refused before the end of a label after which nothing is
pub none_before_end : (visited : Result (Unit {0}) EncodeError) (mid new : GatheredPieces) → EndsLabel visited mid new → new.refused ≡ None → mid.refused ≡ None
none_before_end visited mid new ends none =
    elim (option_cases mid.refused) [ inl e ↦ e | inr (k, e) ↦ (let same : new ≡ mid = ends.kept k e in cc) ]

pub own_refusal_is : (F : Type 0) (e : EncodeError) → (e ≡ Memory) ⊎ F → OwnRefusal F (own_refusal e)
own_refusal_is F e (inl m) = inl (ap own_refusal m)
own_refusal_is F Memory (inr f) = inl refl
own_refusal_is F _ (inr f) = inr (refl, f)

malformed_of_pieces : (ps : EmittedLabel) → CannotBegin ps → IsMalformed ps
malformed_of_pieces [] h = h
malformed_of_pieces (ValuePiece t ∷ ps) h = tt
malformed_of_pieces (NamePiece n ∷ []) h = tt
malformed_of_pieces (NamePiece n ∷ NamePiece m ∷ ps) h = tt
malformed_of_pieces (NamePiece n ∷ ValuePiece t ∷ []) h = h
malformed_of_pieces (NamePiece n ∷ ValuePiece t ∷ p ∷ ps) h = tt

label_fault_of_pieces : (k : EncodeError) (type : MetricType) (before : List Label) (ps : EmittedLabel) → PieceFault k type before ps → LabelFault k type before ps
label_fault_of_pieces k type before ps (inl m) = inl (m.0, malformed_of_pieces ps m.1)
label_fault_of_pieces k type before ps (inr n) = inr n

pub EmitsLabels-one : (pieces : EmittedLabel) (F : Type 0) (old mid new : GatheredPieces) (visited : Result (Unit {0}) EncodeError) → EmitsPieces pieces F old mid visited → EndsLabel visited mid new → (old.refused ≡ None → old.pieces ≡ []) → EmitsLabels (pieces ∷ []) F (set_of old) (set_of new) (result_of new.refused)
EmitsLabels-one pieces F old mid new visited emits ends empty =
    let all_pieces : old.refused ≡ None → mid.refused ≡ None → visited ≡ Ok tt → mid.pieces ≡ pieces =
    (λ o m v. rw (empty o) at (emits.emitted o m v)) in
    record {
      same_type = ends.same_type ∙ emits.same_type;
      kept = λ k e. (let same : mid ≡ old = emits.kept k e in let again : new ≡ mid = ends.kept k (ap (λ (g : GatheredPieces). g.refused) same ∙ e) in ap set_of (again ∙ same));
      valid = λ o n r.
          (let m = none_before_end visited mid new ends n in
          (rw (emits.same_type, emits.same_labels, all_pieces o m (ends.visited_ok m n)) at (ends.valid m n), tt));
      emitted = λ o n r.
          (let m = none_before_end visited mid new ends n in
          rw append-nil (rw (emits.same_labels, all_pieces o m (ends.visited_ok m n)) at (ends.labels m n)));
      own = λ e n r. (let no : Ok tt ≡ Err e = rw n at r in cc);
      refused = λ k o n. elim (option_cases mid.refused) [
        | inr (j, e) ↦
            (let again : new ≡ mid = ends.kept j e in
            let same : j ≡ k = cc in
            elim (emits.refused j o e) [
              | inl memory ↦ inl (inl (sym same ∙ memory))
              | inr fault ↦
                  (let in_label : LabelFault j old.metric_type old.labels pieces = label_fault_of_pieces j _ _ _ (rw (empty o) at fault) in
                  inr (inl (subst (λ (i : EncodeError). LabelFault i old.metric_type old.labels pieces) same in_label)))
            ])
        | inl m ↦ elim (answer_cases visited) [
          | inl v ↦ elim (ends.refused k m v n) [
            | inl memory ↦ inl (inl memory)
            | inr fault ↦ inr (inl (inl (fault.0, rw (all_pieces o m v) at fault.1)))
          ]
          | inr (e, v) ↦
              (let kept : Some (own_refusal e) ≡ Some k = sym (ends.own e m v) ∙ n in
              let same : own_refusal e ≡ k = cc in
              inl (subst (OwnRefusal F) same (own_refusal_is F e (emits.own e m v))))
        ]
      ];
    }

-- a label that has a name and a value is written
pub EndsLabel-both : (visited : Result (Unit {0}) EncodeError) (name text : Option (List ℕ)) (old new : GatheredPieces) → visited ≡ Ok tt → old.refused ≡ None → is_some name ≡ true → is_some text ≡ true → ((n : List ℕ) → name ≡ Some n → NameFits old.metric_type old.labels n) → old.pieces ≡ pieces_of name text → new.metric_type ≡ old.metric_type → (new.refused ≡ None → new.pieces ≡ []) → (new.refused ≡ None → new.labels ≡ old.labels ++ written old.pieces) → ((k : EncodeError) → new.refused ≡ Some k → k ≡ Memory) → EndsLabel visited old new
EndsLabel-both visited None text old new v o named valued fits whole type empty labels memory = absurd cc
EndsLabel-both visited (Some n) None old new v o named valued fits whole type empty labels memory = absurd cc
EndsLabel-both visited (Some n) (Some t) old new v o named valued fits whole type empty labels memory = record {
  same_type = type;
  kept = λ k e. absurd cc;
  visited_ok = λ _ _. v;
  pieces = λ _ none. empty none;
  valid = λ _ _. inr (n, t, whole, fits n refl);
  labels = λ _ none. labels none;
  own = λ e _ w. absurd cc;
  refused = λ k _ _ r. inl (memory k r);
}
