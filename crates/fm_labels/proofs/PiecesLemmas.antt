-- Pieces that are emitted one part after the other.
use Rattle.std.proofs.Common.{◌≡◌, List, [], ◌∷◌, ◌++◌, None, Result, Ok, Err, inl, inr, refl, sym, ◌∙◌, ap, subst, append_assoc, append-nil}
use Rattle.std.proofs.lemmas.List.Elements.{Contains-append_left}
use Rattle.fm_raw.specs.declared.encode_error.EncodeError.{EncodeError}
use Rattle.fm_grammar.specs.declared.MetricType.{MetricType}
use Rattle.fm_grammar.specs.Exposition.{Label}
use Rattle.fm_labels.specs.Labels.{EmittedLabel, NamePiece, ValuePiece, PieceFault, CannotBegin}
use Rattle.fm_labels.specs.LabelEncoders.{GatheredPieces}
use Rattle.fm_labels.specs.LabelEncoders.{EmitsPieces}
use Rattle.fm_labels.proofs.Cases.{option_cases}

pub none_before_emits : {pieces : EmittedLabel} {F : Type 0} (old mid : GatheredPieces) (r : Result (Unit {0}) EncodeError) → EmitsPieces pieces F old mid r → mid.refused ≡ None → old.refused ≡ None
none_before_emits old mid r emits none =
    elim (option_cases old.refused) [ inl e ↦ e | inr (k, e) ↦ (let same : mid ≡ old = emits.kept k e in cc) ]

pub CannotBegin-append : (ps qs : EmittedLabel) → CannotBegin ps → CannotBegin (ps ++ qs)
CannotBegin-append [] qs h = absurd h
CannotBegin-append (ValuePiece t ∷ ps) qs h = tt
CannotBegin-append (NamePiece n ∷ []) qs h = absurd h
CannotBegin-append (NamePiece n ∷ NamePiece m ∷ ps) qs h = tt
CannotBegin-append (NamePiece n ∷ ValuePiece t ∷ []) qs h = absurd h
CannotBegin-append (NamePiece n ∷ ValuePiece t ∷ p ∷ ps) qs h = tt

-- no further piece mends a fault
pub PieceFault-append : (k : EncodeError) (type : MetricType) (before : List Label) (ps qs : EmittedLabel) → PieceFault k type before ps → PieceFault k type before (ps ++ qs)
PieceFault-append k type before ps qs (inl m) = inl (m.0, CannotBegin-append ps qs m.1)
PieceFault-append k type before ps qs (inr n) = inr (n.0, Contains-append_left ps qs _ n.1, n.2)

-- one part, and then another
pub EmitsPieces-then : {xs ys : EmittedLabel} {F : Type 0} (old mid new : GatheredPieces) (first r : Result (Unit {0}) EncodeError) → EmitsPieces xs F old mid first → first ≡ Ok tt → EmitsPieces ys F mid new r → EmitsPieces (xs ++ ys) F old new r
EmitsPieces-then {xs} {ys} {F} old mid new first r a ok b = record {
  same_type = b.same_type ∙ a.same_type;
  same_labels = b.same_labels ∙ a.same_labels;
  kept = λ k e. (let same : mid ≡ old = a.kept k e in let again : new ≡ mid = b.kept k (ap (λ (g : GatheredPieces). g.refused) same ∙ e) in again ∙ same);
  emitted = λ o n e.
      (let m = none_before_emits mid new r b n in
      b.emitted m n e ∙ ap (λ (ps : EmittedLabel). ps ++ ys) (a.emitted o m ok) ∙ append_assoc old.pieces xs ys);
  own = λ e n w. b.own e n w;
  refused = λ k o n. elim (option_cases mid.refused) [
    | inr (j, e) ↦
        (let again : new ≡ mid = b.kept j e in
        let same : j ≡ k = cc in
        elim (a.refused j o e) [
          | inl memory ↦ inl (sym same ∙ memory)
          | inr fault ↦
              (let longer = PieceFault-append j _ _ _ ys fault in
              inr (subst (λ (i : EncodeError). PieceFault i old.metric_type old.labels (old.pieces ++ (xs ++ ys))) same (rw append_assoc at longer)))
        ])
    | inl m ↦ elim (b.refused k m n) [
      | inl memory ↦ inl memory
      | inr fault ↦
          (let p : mid.pieces ++ ys ≡ old.pieces ++ (xs ++ ys) = ap (λ (ps : EmittedLabel). ps ++ ys) (a.emitted o m ok) ∙ append_assoc old.pieces xs ys in
          inr (rw (a.same_type, a.same_labels, p) at fault))
    ]
  ];
}

-- a first part that returned an error
pub EmitsPieces-stopped : {xs : EmittedLabel} {F : Type 0} (ys : EmittedLabel) (old new : GatheredPieces) (e : EncodeError) → EmitsPieces xs F old new (Err e) → EmitsPieces (xs ++ ys) F old new (Err e)
EmitsPieces-stopped {xs} ys old new e a = record {
  same_type = a.same_type;
  same_labels = a.same_labels;
  kept = a.kept;
  emitted = λ o n ok. absurd cc;
  own = a.own;
  refused = λ k o n. elim (a.refused k o n) [
    | inl memory ↦ inl memory
    | inr fault ↦ inr (rw append_assoc at (PieceFault-append k _ _ _ ys fault))
  ];
}

-- a part that may return an error only if the whole may
pub EmitsPieces-weaker : {xs : EmittedLabel} {F G : Type 0} (old new : GatheredPieces) (r : Result (Unit {0}) EncodeError) → (F → G) → EmitsPieces xs F old new r → EmitsPieces xs G old new r
EmitsPieces-weaker old new r weaker a = record {
  same_type = a.same_type;
  same_labels = a.same_labels;
  kept = a.kept;
  emitted = a.emitted;
  own = λ e n w. elim (a.own e n w) [ inl memory ↦ inl memory | inr fault ↦ inr (weaker fault) ];
  refused = a.refused;
}

-- nothing is emitted
pub EmitsPieces-nothing : {F : Type 0} (g : GatheredPieces) → EmitsPieces [] F g g (Ok tt)
EmitsPieces-nothing g = record {
  same_type = refl;
  same_labels = refl;
  kept = λ _ _. refl;
  emitted = λ _ _ _. sym (append-nil g.pieces);
  own = λ e n w. absurd cc;
  refused = λ k o n. absurd cc;
}
