-- Members of a metric, one after the other.
use Rattle.std.proofs.Common.{◌≡◌, ℕ, List, [], ◌∷◌, ◌++◌, Some, None, Result, Ok, Err, ◌⊎◌, inl, inr, refl, sym, ◌∙◌, ap, subst, append_assoc, append-nil, ◌<◌, ◌+◌, length, get_or, take}
use Rattle.std.specs.List.{AllByRecursion}
use Rattle.std.proofs.lemmas.List.{take_more}
use Rattle.std.proofs.lemmas.Grind.{flat_map-append}
use Rattle.fm_grammar.specs.Exposition.{Label}
use Rattle.fm_grammar.specs.declared.MetricType.{MetricType}
use Rattle.fm_raw.specs.declared.encode_error.EncodeError.{EncodeError}
use Rattle.fm_grammar.specs.WellFormed.{IsSample}
use Rattle.fm_grammar.proofs.Runs.{all_append}
use Rattle.fm_writer.specs.Output.{appended}
use Rattle.fm_writer.proofs.OutputLemmas.{appended-append, appended-none}
use Rattle.fm_labels.specs.Labels.{EmittedLabel, LabelsValid, LabelsFault, all_written, emitted_again}
use Rattle.fm_encoder.specs.Points.{Point, Member, Setting, Context, PointValid, PartsFault, point_samples, MembersValid, MembersFault, members_samples}
use Rattle.fm_encoder.specs.inside.Samples.{member_samples}
use Rattle.fm_encoder.specs.Gathered.{GatheredPoints, GatheredMembers}
use Rattle.fm_labels.specs.Refusals.{OwnRefusal, own_refusal, result_of}
use Rattle.fm_encoder.specs.Emits.{EmitsPoints, EmitsMembers, PointsValid, PointsFault, points_samples, MembersOf, members_of, OffersOf}
use Rattle.fm_encoder.specs.inside.Joined.{Joined}
use Rattle.fm_encoder.specs.inside.Steps.{BeginsMember, EndsPoints}
use Rattle.fm_labels.specs.Refusals.{Takes}
use Rattle.fm_encoder.specs.Takes.{TakesPoints, TakesMembers}
use Rattle.fm_labels.proofs.Cases.{option_cases, answer_cases, none_from_answer}
use Rattle.fm_labels.proofs.LabelSetLemmas.{own_refusal_is}

abbrev pub context_of : List Label → Setting → Context
context_of labels s = record { setting = s; constants = labels }

-- what a metric encoder shows of its point encoder
abbrev pub shown : List Label → GatheredPoints → GatheredMembers
shown labels g = record { context = context_of labels g.setting; output = g.output; refused = g.refused }

pub none_before_ends : (visited : Result (Unit {0}) EncodeError) (mid new : GatheredPoints) → EndsPoints visited mid new → new.refused ≡ None → mid.refused ≡ None
none_before_ends visited mid new ends none =
    elim (option_cases mid.refused) [ inl e ↦ e | inr (k, e) ↦ (let same : new ≡ mid = ends.kept k e in cc) ]

pub none_before_points : {A : List Point → Type 0} {F : Type 0} (old mid : GatheredPoints) (r : Result (Unit {0}) EncodeError) → EmitsPoints A F old mid r → mid.refused ≡ None → old.refused ≡ None
none_before_points old mid r emits none =
    elim (option_cases old.refused) [ inl e ↦ e | inr (k, e) ↦ (let same : mid ≡ old = emits.kept k e in cc) ]

module _ (constants : List Label) (labels : List EmittedLabel) where
  -- the labels that come first in each sample
  abbrev all : List EmittedLabel
  all = emitted_again constants ++ labels

  -- valid points under valid labels are valid members
  MembersValid-of : (g : GatheredPoints) (ps : List Point) → (g.deferred ≡ None → LabelsValid g.setting.metric_type [] all) → (g.deferred ≡ None → g.common ≡ all_written all) → PointsValid g ps → MembersValid (context_of constants g.setting) (members_of labels ps)
  MembersValid-of g [] valid common h = tt
  MembersValid-of g (p ∷ ps) valid common h =
      ((valid h.0, subst (λ (ls : List Label). PointValid g.setting ls p) (common h.0) h.1), MembersValid-of g ps valid common h.2)

  -- and have the same samples
  members_samples-of : (g : GatheredPoints) (ps : List Point) → (g.deferred ≡ None → g.common ≡ all_written all) → PointsValid g ps → points_samples g ps ≡ members_samples (context_of constants g.setting) (members_of labels ps)
  members_samples-of g [] common h = refl
  members_samples-of g (p ∷ ps) common h =
      let first : point_samples g.setting g.common p ≡ point_samples g.setting (all_written all) p = ap (λ (ls : List Label). point_samples g.setting ls p) (common h.0) in
      let rest = members_samples-of g ps common h.2 in
      λ i. first i ++ rest i

  -- a fault of points is one of members, or the labels' own refusal
  MembersFault-of : (k : EncodeError) (F : Type 0) (g : GatheredPoints) (ps : List Point) → (g.deferred ≡ Some k → OwnRefusal F k ⊎ LabelsFault k g.setting.metric_type [] all)
      → (g.deferred ≡ None → g.common ≡ all_written all) → PointsFault k g ps → OwnRefusal F k ⊎ MembersFault k (context_of constants g.setting) (members_of labels ps)
  MembersFault-of k F g [] deferred common h = absurd h
  MembersFault-of k F g (p ∷ ps) deferred common (inl (inl mismatch)) = inr (inl (inr (inl mismatch)))
  MembersFault-of k F g (p ∷ ps) deferred common (inl (inr (inl d))) =
      elim (deferred d) [ inl own ↦ inl own | inr fault ↦ inr (inl (inl fault)) ]
  MembersFault-of k F g (p ∷ ps) deferred common (inl (inr (inr (none, parts)))) =
      inr (inl (inr (inr (subst (λ (ls : List Label). PartsFault k g.setting ls p) (common none) parts))))
  MembersFault-of k F g (p ∷ ps) deferred common (inr more) =
      elim (MembersFault-of k F g ps deferred common more) [ inl own ↦ inl own | inr fault ↦ inr (inr fault) ]

OwnRefusal-left : {F G : Type 0} (k : EncodeError) → OwnRefusal F k → OwnRefusal (F ⊎ G) k
OwnRefusal-left k (inl m) = inl m
OwnRefusal-left k (inr f) = inr (f.0, inl f.1)

pub OwnRefusal-right : {F G : Type 0} (k : EncodeError) → OwnRefusal G k → OwnRefusal (F ⊎ G) k
OwnRefusal-right k (inl m) = inl m
OwnRefusal-right k (inr f) = inr (f.0, inr f.1)

-- the points of a metric under one member's labels
pub EmitsMembers-one : (constants : List Label) (labels : List EmittedLabel) (A : List Point → Type 0) (F G : Type 0) (old begun mid new : GatheredPoints) (visited : Result (Unit {0}) EncodeError) → BeginsMember (emitted_again constants ++ labels) F old begun → EmitsPoints A G begun mid visited → EndsPoints visited mid new → old.refused ≡ None → EmitsMembers (MembersOf labels A) (F ⊎ G) (shown constants old) (shown constants new) (result_of new.refused)
EmitsMembers-one constants labels A F G old begun mid new visited begins emits ends accepting =
    let begun_none : begun.refused ≡ None = begins.refused ∙ accepting in
    let same_context : context_of constants begun.setting ≡ context_of constants old.setting = ap (context_of constants) begins.setting in
    let label_type = λ (type : MetricType). LabelsValid type [] (emitted_again constants ++ labels) in
    record {
      context = ap (context_of constants) (ends.same.setting ∙ emits.same.setting ∙ begins.setting);
      kept = λ k e. absurd cc;
      emitted = λ o n r.
          (let m = none_before_ends visited mid new ends n in
          let h = emits.emitted begun_none m (ends.visited_ok m n) in
          let valid = MembersValid-of constants labels begun h.0 (λ d. subst label_type (ap (λ (s : Setting). s.metric_type) (sym begins.setting)) (begins.valid accepting d)) (begins.common accepting) h.2 in
          let lines = members_samples-of constants labels begun h.0 (begins.common accepting) h.2 in (
            members_of labels h.0,
            (h.0, h.1, refl),
            subst (λ (x : Context). MembersValid x (members_of labels h.0)) same_context valid,
            ends.output ∙ h.3 ∙ (λ i. appended (begins.setting i).name (begins.output i) (lines i)) ∙ ap (λ (x : Context). appended old.setting.name old.output (members_samples x (members_of labels h.0))) same_context,
          ));
      own = λ e n r. (let none : Ok tt ≡ Err e = rw n at r in cc);
      refused = λ k o n. elim (option_cases mid.refused) [
        | inr (j, e) ↦
            (let again : new ≡ mid = ends.kept j e in
            let same : j ≡ k = cc in
            elim (emits.refused k begun_none (e ∙ ap Some same)) [
              | inl own ↦ inl (OwnRefusal-right k own)
              | inr (ps, admitted, fault) ↦
                  elim (MembersFault-of constants labels k F begun ps (λ d. subst (λ (type : MetricType). OwnRefusal F k ⊎ LabelsFault k type [] (emitted_again constants ++ labels)) (ap (λ (s : Setting). s.metric_type) (sym begins.setting)) (begins.deferred k accepting d)) (begins.common accepting) fault) [
                    | inl own ↦ inl (OwnRefusal-left k own)
                    | inr members ↦ inr (members_of labels ps, (ps, admitted, refl), subst (λ (x : Context). MembersFault k x (members_of labels ps)) same_context members)
                  ]
            ])
        | inl m ↦ elim (answer_cases visited) [
          | inl v ↦ (let none : new.refused ≡ None = ends.ok m v in absurd cc)
          | inr (e, v) ↦
              (let kept : Some (own_refusal e) ≡ Some k = sym (ends.own e m v) ∙ n in
              let same : own_refusal e ≡ k = cc in
              inl (OwnRefusal-right k (subst (OwnRefusal G) same (own_refusal_is G e (emits.own e m v)))))
        ]
      ];
    }

MembersValid-append : (context : Context) (xs ys : List Member) → MembersValid context xs → MembersValid context ys → MembersValid context (xs ++ ys)
MembersValid-append context [] ys h after = after
MembersValid-append context (x ∷ xs) ys h after = (h.0, MembersValid-append context xs ys h.1 after)

-- the samples of valid members are well formed
pub MembersValid-formed : (context : Context) (ms : List Member) → MembersValid context ms → AllByRecursion (IsSample context.setting.metric_type) (members_samples context ms)
MembersValid-formed context [] h = tt
MembersValid-formed context (m ∷ ms) h = all_append (IsSample context.setting.metric_type) (member_samples context m) (members_samples context ms) h.0.1.formed (MembersValid-formed context ms h.1)

MembersFault-after : (k : EncodeError) (context : Context) (xs ys : List Member) → MembersFault k context ys → MembersFault k context (xs ++ ys)
MembersFault-after k context [] ys h = h
MembersFault-after k context (x ∷ xs) ys h = inr (MembersFault-after k context xs ys h)

pub none_before_members : {A : List Member → Type 0} {F : Type 0} (old mid : GatheredMembers) (r : Result (Unit {0}) EncodeError) → EmitsMembers A F old mid r → mid.refused ≡ None → old.refused ≡ None
none_before_members old mid r emits none =
    elim (option_cases old.refused) [ inl e ↦ e | inr (k, e) ↦ (let same : mid ≡ old = emits.kept k e in cc) ]

-- members of a first part that was not refused, and then of another
pub EmitsMembers-then : {A B : List Member → Type 0} {F : Type 0} (old mid new : GatheredMembers) (first r : Result (Unit {0}) EncodeError) → EmitsMembers A F old mid first → first ≡ Ok tt → (old.refused ≡ None → mid.refused ≡ None) → EmitsMembers B F mid new r → EmitsMembers (Joined A B) F old new r
EmitsMembers-then {A} {B} {F} old mid new first r a ok accepted b = record {
  context = b.context ∙ a.context;
  kept = λ k e. (let same : mid ≡ old = a.kept k e in let again : new ≡ mid = b.kept k (ap (λ (g : GatheredMembers). g.refused) same ∙ e) in again ∙ same);
  emitted = λ o n e.
      (let m = accepted o in
      let x = a.emitted o m ok in
      let y = b.emitted m n e in (
        x.0 ++ y.0,
        (x.0, y.0, x.1, y.1, refl),
        MembersValid-append old.context x.0 y.0 x.2 (rw a.context at y.2),
        (let lines : members_samples old.context (x.0 ++ y.0) ≡ members_samples old.context x.0 ++ members_samples old.context y.0 = flat_map-append (member_samples old.context) x.0 y.0 in
            let name = old.context.setting.name in
            let after : new.output ≡ appended name (appended name old.output (members_samples old.context x.0)) (members_samples old.context y.0) = rw (a.context, x.3) at y.3 in
            rw lines (after ∙ sym (appended-append name old.output (members_samples old.context x.0) (members_samples old.context y.0)))),
      ));
  own = λ e n w. b.own e n w;
  refused = λ k o n.
      (let m = accepted o in
      let x = a.emitted o m ok in
      elim (b.refused k m n) [
        | inl own ↦ inl own
        | inr (ys, admitted, fault) ↦ inr (x.0 ++ ys, (x.0, ys, x.1, admitted, refl), MembersFault-after k old.context x.0 ys (rw a.context at fault))
      ]);
}

pub EmitsPoints-weaker : {A B : List Point → Type 0} {F G : Type 0} (old new : GatheredPoints) (r : Result (Unit {0}) EncodeError) → ((ps : List Point) → A ps → B ps) → (F → G) → EmitsPoints A F old new r → EmitsPoints B G old new r
EmitsPoints-weaker old new r admits weaker a = record {
  same = a.same;
  kept = a.kept;
  emitted = λ o n e. (let h = a.emitted o n e in (h.0, admits h.0 h.1, h.2, h.3));
  own = λ e n w. elim (a.own e n w) [ inl memory ↦ inl memory | inr fault ↦ inr (weaker fault) ];
  refused = λ k o n. elim (a.refused k o n) [
    | inl (inl memory) ↦ inl (inl memory)
    | inl (inr fault) ↦ inl (inr (fault.0, weaker fault.1))
    | inr (ps, admitted, fault) ↦ inr (ps, admits ps admitted, fault)
  ];
}

pub EmitsMembers-weaker : {A B : List Member → Type 0} {F G : Type 0} (old new : GatheredMembers) (r : Result (Unit {0}) EncodeError) → ((ms : List Member) → A ms → B ms) → (F → G) → EmitsMembers A F old new r → EmitsMembers B G old new r
EmitsMembers-weaker old new r admits weaker a = record {
  context = a.context;
  kept = a.kept;
  emitted = λ o n e. (let h = a.emitted o n e in (h.0, admits h.0 h.1, h.2, h.3));
  own = λ e n w. elim (a.own e n w) [ inl memory ↦ inl memory | inr fault ↦ inr (weaker fault) ];
  refused = λ k o n. elim (a.refused k o n) [
    | inl (inl memory) ↦ inl (inl memory)
    | inl (inr fault) ↦ inl (inr (fault.0, weaker fault.1))
    | inr (ms, admitted, fault) ↦ inr (ms, admits ms admitted, fault)
  ];
}

pub EmitsMembers-nothing : {A : List Member → Type 0} {F : Type 0} (g : GatheredMembers) → A [] → EmitsMembers A F g g (Ok tt)
EmitsMembers-nothing g admitted = record {
  context = refl;
  kept = λ _ _. refl;
  emitted = λ _ _ _. ([], admitted, tt, sym (appended-none g.context.setting.name g.output));
  own = λ e n w. absurd cc;
  refused = λ k o n. absurd cc;
}

-- one point without member labels, and the members that it makes
pub EmitsMembers-bare : (p : Point) (F G : Type 0) (old new : GatheredMembers) (r : Result (Unit {0}) EncodeError) → (F → ⊥) → EmitsMembers (MembersOf [] (λ ps. ps ≡ p ∷ [])) (F ⊎ G) old new r → EmitsMembers (λ ms. ms ≡ record { labels = []; point = p } ∷ []) G old new r
EmitsMembers-bare p F G old new r never a =
    EmitsMembers-weaker old new r (λ ms m. m.2 ∙ ap (members_of []) m.1) (λ (h : _). elim h [ inl own ↦ absurd (never own) | inr fault ↦ fault ]) a

-- the end of points that returned their own refusal changes nothing
EndsPoints-again : (g : GatheredPoints) (r : Result (Unit {0}) EncodeError) → r ≡ result_of g.refused → EndsPoints r g g
EndsPoints-again g r returned = record {
  same = record { setting = refl; common = refl; deferred = refl };
  output = refl;
  kept = λ k e. refl;
  visited_ok = λ o n. returned ∙ ap result_of n;
  own = λ e o is. (let none : Ok tt ≡ Err e = sym (returned ∙ ap result_of o) ∙ is in absurd cc);
  ok = λ o is. o;
}

-- a member without labels of its own, and a call of its point encoder
pub TakesMembers-bare : (constants : List Label) (p : Point) (F G : Type 0) (old begun new : GatheredPoints) (first r : Result (Unit {0}) EncodeError) → (F → ⊥) → Takes (BeginsMember (emitted_again constants ++ []) F old begun) begun.refused first → first ≡ Ok tt → TakesPoints (λ ps. ps ≡ p ∷ []) G begun new r → TakesMembers (λ ms. ms ≡ record { labels = []; point = p } ∷ []) G (shown constants old) (shown constants new) r
TakesMembers-bare constants p F G old begun new first r never begins ok takes =
    let accepting : old.refused ≡ None = sym begins.emitted.refused ∙ none_from_answer begun.refused begins.returned ok in
    let one = EmitsMembers-one constants [] (λ ps. ps ≡ p ∷ []) F G old begun new new r begins.emitted takes.emitted (EndsPoints-again new r takes.returned) accepting in
    let emits = subst (λ (x : Result (Unit {0}) EncodeError). EmitsMembers (MembersOf [] (λ ps. ps ≡ p ∷ [])) (F ⊎ G) (shown constants old) (shown constants new) x) (sym takes.returned) one in
    record { emitted = EmitsMembers-bare p F G (shown constants old) (shown constants new) r never emits; returned = takes.returned }

-- one pair more
pub OffersOf-push : {S M : Type 0} (labels : S → List EmittedLabel) (Points : M → List Point → Type 0) (xs : List (S × M)) (x : S × M) (ms : List Member) → Joined (OffersOf labels Points xs) (MembersOf (labels x.0) (Points x.1)) ms → OffersOf labels Points (xs ++ x ∷ []) ms
OffersOf-push labels Points [] x ms (xs_none, bs, none, own, is) =
    (bs, [], own, refl, is ∙ ap (λ (zs : List Member). zs ++ bs) none ∙ sym (append-nil bs))
OffersOf-push labels Points (y ∷ xs) x ms (front, bs, (first, rest, own_first, offered, front_is), own, is) = (
  first,
  rest ++ bs,
  own_first,
  OffersOf-push labels Points xs x (rest ++ bs) (rest, bs, offered, own, refl),
  is ∙ ap (λ (zs : List Member). zs ++ bs) front_is ∙ append_assoc first rest bs,
)

-- a loop over pairs that each emit their members: one pair more
pub EmitsMembers-more : {S M : Type 0} {F : Type 0} (labels : S → List EmittedLabel) (Points : M → List Point → Type 0) (xs : List (S × M)) (i : ℕ) (x : S × M) → i < length xs → x ≡ get_or xs i x → (old mid new : GatheredMembers) (r : Result (Unit {0}) EncodeError) → EmitsMembers (OffersOf labels Points (take i xs)) F old mid (Ok tt) → (old.refused ≡ None → mid.refused ≡ None) → EmitsMembers (MembersOf (labels x.0) (Points x.1)) F mid new r → EmitsMembers (OffersOf labels Points (take (i + 1) xs)) F old new r
EmitsMembers-more {S} {M} labels Points xs i x within is old mid new r before accepted one =
    let more : take (i + 1) xs ≡ take i xs ++ x ∷ [] = take_more xs i x within ∙ ap (λ (y : S × M). take i xs ++ y ∷ []) (sym is) in
    rw more (EmitsMembers-weaker old new r (OffersOf-push labels Points (take i xs) x) (λ fault. fault) (EmitsMembers-then old mid new (Ok tt) r before refl accepted one))
