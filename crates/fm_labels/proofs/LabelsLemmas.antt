-- Labels that are emitted one after the other.
use Rattle.std.proofs.Common.{◌≡◌, ℕ, List, [], ◌∷◌, ◌++◌, None, Result, Ok, Err, MatchResult, ◌⊎◌, inl, inr, refl, sym, ◌∙◌, ap, subst, append_assoc, append-nil, ◌<◌, ◌+◌, length, get_or, take, drop, map, Any}
use Rattle.std.proofs.lemmas.List.Elements.{Contains-append_left, Contains-append_right}
use Rattle.std.proofs.lemmas.List.{map_more, map-append, take-append-drop}
use Rattle.std.proofs.lemmas.Grind.{flat_map-append}
use Rattle.fm_raw.specs.declared.encode_error.EncodeError.{EncodeError}
use Rattle.fm_grammar.specs.declared.MetricType.{MetricType}
use Rattle.fm_grammar.specs.Exposition.{Label}
use Rattle.fm_labels.specs.Labels.{EmittedLabel, LabelsFault, LabelsValid, all_written, written, emitted_again}
use Rattle.fm_labels.specs.LabelEncoders.{GatheredLabels}
use Rattle.fm_labels.specs.Refusals.{OwnRefusal}
use Rattle.fm_labels.specs.LabelEncoders.{EmitsLabels}
use Rattle.fm_labels.proofs.Cases.{option_cases}

pub none_before_labels : {xs : List EmittedLabel} {F : Type 0} (old mid : GatheredLabels) (r : Result (Unit {0}) EncodeError) → EmitsLabels xs F old mid r → mid.refused ≡ None → old.refused ≡ None
none_before_labels old mid r emits none =
    elim (option_cases old.refused) [ inl e ↦ e | inr (k, e) ↦ (let same : mid ≡ old = emits.kept k e in cc) ]

-- no further label mends a fault
pub LabelsFault-append : (k : EncodeError) (type : MetricType) (before : List Label) (xs ys : List EmittedLabel) → LabelsFault k type before xs → LabelsFault k type before (xs ++ ys)
LabelsFault-append k type before [] ys h = absurd h
LabelsFault-append k type before (x ∷ xs) ys (inl h) = inl h
LabelsFault-append k type before (x ∷ xs) ys (inr h) = inr (LabelsFault-append k type _ xs ys h)

-- a fault after the labels before it
pub LabelsFault-after : (k : EncodeError) (type : MetricType) (before : List Label) (xs ys : List EmittedLabel) → LabelsFault k type (before ++ all_written xs) ys → LabelsFault k type before (xs ++ ys)
LabelsFault-after k type before [] ys h = rw append-nil at h
LabelsFault-after k type before (x ∷ xs) ys h =
    inr (LabelsFault-after k type (before ++ written x) xs ys (rw (← append_assoc before (written x) (all_written xs)) at h))

pub LabelsValid-append : (type : MetricType) (before : List Label) (xs ys : List EmittedLabel) → LabelsValid type before xs → LabelsValid type (before ++ all_written xs) ys → LabelsValid type before (xs ++ ys)
LabelsValid-append type before [] ys h after = rw append-nil at after
LabelsValid-append type before (x ∷ xs) ys h after =
    (h.0, LabelsValid-append type (before ++ written x) xs ys h.1 (rw (← append_assoc before (written x) (all_written xs)) at after))

pub all_written-append : (xs ys : List EmittedLabel) → all_written (xs ++ ys) ≡ all_written xs ++ all_written ys
all_written-append xs ys = flat_map-append written xs ys

-- some labels, and then others
pub EmitsLabels-then : {xs ys : List EmittedLabel} {F : Type 0} (old mid new : GatheredLabels) (first r : Result (Unit {0}) EncodeError) → EmitsLabels xs F old mid first → first ≡ Ok tt → EmitsLabels ys F mid new r → EmitsLabels (xs ++ ys) F old new r
EmitsLabels-then {xs} {ys} {F} old mid new first r a ok b = record {
  same_type = b.same_type ∙ a.same_type;
  kept = λ k e. (let same : mid ≡ old = a.kept k e in let again : new ≡ mid = b.kept k (ap (λ (g : GatheredLabels). g.refused) same ∙ e) in again ∙ same);
  valid = λ o n e.
      (let m = none_before_labels mid new r b n in
      LabelsValid-append _ _ xs ys (a.valid o m ok) (rw (a.same_type, a.emitted o m ok) at (b.valid m n e)));
  emitted = λ o n e.
      (let m = none_before_labels mid new r b n in
      rw all_written-append (b.emitted m n e ∙ ap (λ (ls : List Label). ls ++ all_written ys) (a.emitted o m ok) ∙ append_assoc old.labels (all_written xs) (all_written ys)));
  own = λ e n w. b.own e n w;
  refused = λ k o n. elim (option_cases mid.refused) [
    | inr (j, e) ↦
        (let again : new ≡ mid = b.kept j e in
        let same : j ≡ k = cc in
        elim (a.refused j o e) [
          | inl own ↦ inl (subst (OwnRefusal F) same own)
          | inr fault ↦ inr (subst (λ (i : EncodeError). LabelsFault i old.metric_type old.labels (xs ++ ys)) same (LabelsFault-append j _ _ xs ys fault))
        ])
    | inl m ↦ elim (b.refused k m n) [
      | inl own ↦ inl own
      | inr fault ↦ inr (LabelsFault-after k _ _ xs ys (rw (a.same_type, a.emitted o m ok) at fault))
    ]
  ];
}

-- some labels that ended with an error, of a longer list
pub EmitsLabels-stopped : {xs : List EmittedLabel} {F : Type 0} (ys : List EmittedLabel) (old new : GatheredLabels) (e : EncodeError) → EmitsLabels xs F old new (Err e) → EmitsLabels (xs ++ ys) F old new (Err e)
EmitsLabels-stopped {xs} ys old new e a = record {
  same_type = a.same_type;
  kept = a.kept;
  valid = λ o n ok. absurd cc;
  emitted = λ o n ok. absurd cc;
  own = a.own;
  refused = λ k o n. elim (a.refused k o n) [
    | inl own ↦ inl own
    | inr fault ↦ inr (LabelsFault-append k _ _ xs ys fault)
  ];
}

pub EmitsLabels-weaker : {xs : List EmittedLabel} {F G : Type 0} (old new : GatheredLabels) (r : Result (Unit {0}) EncodeError) → (F → G) → EmitsLabels xs F old new r → EmitsLabels xs G old new r
EmitsLabels-weaker old new r weaker a = record {
  same_type = a.same_type;
  kept = a.kept;
  valid = a.valid;
  emitted = a.emitted;
  own = λ e n w. elim (a.own e n w) [ inl memory ↦ inl memory | inr fault ↦ inr (weaker fault) ];
  refused = λ k o n. elim (a.refused k o n) [
    | inl (inl memory) ↦ inl (inl memory)
    | inl (inr fault) ↦ inl (inr (fault.0, weaker fault.1))
    | inr fault ↦ inr fault
  ];
}

pub EmitsLabels-nothing : {F : Type 0} (g : GatheredLabels) → EmitsLabels [] F g g (Ok tt)
EmitsLabels-nothing g = record {
  same_type = refl;
  kept = λ _ _. refl;
  valid = λ _ _ _. tt;
  emitted = λ _ _ _. sym (append-nil g.labels);
  own = λ e n w. absurd cc;
  refused = λ k o n. absurd cc;
}

-- a loop over items that each emit one label: one item more, and an item that ends the loop with an error
pub EmitsLabels-more : {X : Type 0} {F : Type 0} (f : X → EmittedLabel) (xs : List X) (i : ℕ) (x : X) → i < length xs → x ≡ get_or xs i x → (old mid new : GatheredLabels) (r : Result (Unit {0}) EncodeError) → EmitsLabels (map f (take i xs)) F old mid (Ok tt) → EmitsLabels (f x ∷ []) F mid new r → EmitsLabels (map f (take (i + 1) xs)) F old new r
EmitsLabels-more f xs i x within read old mid new r before one =
    let more : map f (take (i + 1) xs) ≡ map f (take i xs) ++ f x ∷ [] = map_more f xs i x within ∙ ap (λ (y : _). map f (take i xs) ++ f y ∷ []) (sym read) in
    rw more (EmitsLabels-then old mid new (Ok tt) r before refl one)

pub EmitsLabels-ended : {X : Type 0} {F : Type 0} (f : X → EmittedLabel) (xs : List X) (i : ℕ) (x : X) → i < length xs → x ≡ get_or xs i x → (old mid new : GatheredLabels) (e : EncodeError) → EmitsLabels (map f (take i xs)) F old mid (Ok tt) → EmitsLabels (f x ∷ []) F mid new (Err e) → EmitsLabels (map f xs) F old new (Err e)
EmitsLabels-ended f xs i x within read old mid new e before one =
    let whole : map f (take (i + 1) xs) ++ map f (drop (i + 1) xs) ≡ map f xs = sym (map-append f _ _) ∙ ap (map f) (take-append-drop (i + 1) xs) in
    rw (← whole) (EmitsLabels-stopped _ _ _ _ (EmitsLabels-more f xs i x within read old mid new (Err e) before one))

-- an element of a part is one of the whole
pub Any-left : {X : Type 0} (P : X → Type 0) (xs ys : List X) → Any P xs → Any P (xs ++ ys)
Any-left P xs ys (i, x, within, is, here) = (let there = Contains-append_left xs ys x (i, within, is) in (there.0, x, there.1, there.2, here))

pub Any-right : {X : Type 0} (P : X → Type 0) (xs ys : List X) → Any P ys → Any P (xs ++ ys)
Any-right P xs ys (i, x, within, is, here) = (let there = Contains-append_right xs ys x (i, within, is) in (there.0, x, there.1, there.2, here))

-- labels that are emitted again are written again
pub written_again : (ls : List Label) → all_written (emitted_again ls) ≡ ls
written_again [] = refl
written_again (l ∷ ls) = ap (λ (more : List Label). l ∷ more) (written_again ls)

-- labels that were gathered after valid constant ones
pub after_constants : {L : Type 0} (items : L → List Label) (type : MetricType) (constants : List Label) (ls : List EmittedLabel) (F : Type 0) (r : Result L EncodeError) → LabelsValid type [] (emitted_again constants) → MatchResult r (λ t. LabelsValid type constants ls × (items t ≡ constants ++ all_written ls)) (λ k. OwnRefusal F k ⊎ LabelsFault k type constants ls) → MatchResult r (λ t. LabelsValid type [] (emitted_again constants ++ ls) × (items t ≡ all_written (emitted_again constants ++ ls))) (λ k. OwnRefusal F k ⊎ LabelsFault k type [] (emitted_again constants ++ ls))
after_constants items type constants ls F (Ok t) valid h =
    let again = written_again constants in (
      LabelsValid-append type [] (emitted_again constants) ls valid (subst (λ (before : List Label). LabelsValid type before ls) (sym again) h.0),
      h.1 ∙ sym (all_written-append (emitted_again constants) ls ∙ ap (λ (front : List Label). front ++ all_written ls) again),
    )
after_constants items type constants ls F (Err k) valid (inl own) = inl own
after_constants items type constants ls F (Err k) valid (inr fault) =
    inr (LabelsFault-after k type [] (emitted_again constants) ls (subst (λ (before : List Label). LabelsFault k type before ls) (sym (written_again constants)) fault))
