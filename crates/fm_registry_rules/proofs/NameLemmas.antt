-- The three rules hold in every registry of a history, so no two metrics of a history are printed under one name.
use Rattle.std.proofs.Common.{◌≡◌, ◌≢◌, ℕ, zero, suc, ◌+◌, Bool, true, false, ◌||◌, List, [], ◌∷◌, ◌++◌, map, Option, None, Some, ◌⊎◌, inl, inr, if◌then◌else◌, refl, sym, ap, subst, ◌∙◌, append_assoc, append-nil, length, drop, codes, true≢false}
use Rattle.std.specs.Prelude.{flat_map}
use Rattle.std.specs.List.{AllByRecursion, list_any}
use Rattle.std.specs.Str.{bytes_eq}
use Rattle.std.proofs.lemmas.List.{append_cancel_left, map-append}
use Rattle.std.proofs.lemmas.Slice.Eq.{starts_is}
use Rattle.fm_grammar.specs.Names.{AllDifferent}
use Rattle.fm_grammar.proofs.Runs.{all_append, all_weaker}
use Rattle.fm_registry_rules.specs.Texts.{Text, Path, Labels, path_eq, has_text, prefixed_name, suffixed_name, printed_name}
use Rattle.fm_registry_rules.specs.inside.Once.{is_once}
use Rattle.fm_registry_rules.specs.Registration.{Registration, printed_unit}
use Rattle.fm_registry_rules.specs.History.{Call, Subsystem, Register, History, metrics_at, children_at, with_more, history_below}
use Rattle.fm_registry_rules.specs.Taken.{IsBelow, AreApart, AllApart, AreSeparate, tail_of, tails_of, is_below, is_tail_taken, is_child_taken}
use Rattle.fm_registry_rules.specs.Accepted.{IsAccepted, AreAccepted, IsHistory}
use Rattle.fm_registry_rules.specs.Listing.{Listed, listed_with, listed_name, order}
use Rattle.fm_registry_rules.proofs.TextLemmas.{bytes_eq-refl, same_path, both_once}
use Rattle.fm_registry_rules.proofs.HistoryLemmas.{metrics_at-++, children_at-++}
use Rattle.fm_registry_rules.proofs.AnswerLemmas.{registered_free, asked_passed, child_free}
use Rattle.fm_registry_rules.proofs.DepthLemmas.{order_to, order-to}
use Rattle.fm_registry_rules.proofs.AcceptedLemmas.{IsHistory-below, is_once-children}
use Rattle.std.proofs.lemmas.Bool.Decides.{Decides-eqb}

-- both of two tests fail
neither : (c d : Bool) → (c || d) ≡ false → (c ≡ false) × (d ≡ false)
neither true d h = absurd (true≢false h)
neither false d h = (refl, h)

none_passes : {A : Type 0} (test : A → Bool) (xs : List A) → list_any test xs ≡ false → AllByRecursion (λ x. test x ≡ false) xs
none_passes test [] h = tt
none_passes test (x ∷ xs) h =
    let both = neither (test x) (list_any test xs) h in
    (both.0, none_passes test xs both.1)

-- what the test of a beginning tells
pub not_below : (name text : Text) → is_below name text ≡ false → ¬ (IsBelow name text)
not_below name text h below =
    true≢false (sym ((starts_is Decides-eqb text (name ++ codes "_") (is_below name text) refl).1 below.rest (below.is ∙ sym (append_assoc name (codes "_") below.rest))) ∙ h)

pub is_below-true : (name text : Text) → is_below name text ≡ true → IsBelow name text
is_below-true name text h =
    let front = name ++ codes "_" in
    record { rest = drop (length front) text; is = (starts_is Decides-eqb text front (is_below name text) refl).0 h ∙ append_assoc name (codes "_") (drop (length front) text) }

pub is_below-is : (name text : Text) → IsBelow name text → is_below name text ≡ true
is_below-is name text below = (starts_is Decides-eqb text (name ++ codes "_") (is_below name text) refl).1 below.rest (below.is ∙ sym (append_assoc name (codes "_") below.rest))

-- a name that is not among others differs from each
others_differ : (names : List Text) (n : Text) → has_text names n ≡ false → AllByRecursion (λ m. m ≢ n) names
others_differ [] n h = tt
others_differ (m ∷ names) n h =
    let both = by (bytes_eq m n) h in
    ((λ same. true≢false (sym (bytes_eq-refl n) ∙ ap (λ k. bytes_eq k n) (sym same) ∙ both.0)), others_differ names n both.1)
  where
    by : (c : Bool) → (if c then true else has_text names n) ≡ false → (c ≡ false) × (has_text names n ≡ false)
    by true e = absurd (true≢false e)
    by false e = (refl, e)

-- lists of different texts
different-push : (xs : List Text) (n : Text) → AllDifferent xs → AllByRecursion (λ m. m ≢ n) xs → AllDifferent (xs ++ n ∷ [])
different-push [] n h new = (tt, tt)
different-push (x ∷ xs) n h new = (all_append (λ m. m ≢ x) xs (n ∷ []) h.0 ((λ same. new.0 (sym same)), tt), different-push xs n h.1 new.1)

different-++ : (xs ys : List Text) → AllDifferent xs → AllDifferent ys → AllByRecursion (λ x. AllByRecursion (λ y. y ≢ x) ys) xs → AllDifferent (xs ++ ys)
different-++ [] ys h k apart = k
different-++ (x ∷ xs) ys h k apart = (all_append (λ y. y ≢ x) xs ys h.0 apart.0, different-++ xs ys h.1 k apart.1)

apart-push : (xs : List Text) (n : Text) → AllApart xs → AllByRecursion (λ x. AreApart x n) xs → AllApart (xs ++ n ∷ [])
apart-push [] n h new = (tt, tt)
apart-push (x ∷ xs) n h new = (all_append (λ y. AreApart x y) xs (n ∷ []) h.0 (new.0, tt), apart-push xs n h.1 new.1)

-- one tail more for each name
free-push : (tails children : List Text) (t : Text) → AllByRecursion (λ child. AllByRecursion (λ tail. ¬ (IsBelow child tail)) tails) children → AllByRecursion (λ child. ¬ (IsBelow child t)) children
    → AllByRecursion (λ child. AllByRecursion (λ tail. ¬ (IsBelow child tail)) (tails ++ t ∷ [])) children
free-push tails [] t h new = tt
free-push tails (child ∷ children) t h new = (all_append (λ tail. ¬ (IsBelow child tail)) tails (t ∷ []) h.0 (new.0, tt), free-push tails children t h.1 new.1)

-- a tail that is free keeps the rules
separate-tail : (tails children : List Text) (t : Text) → AreSeparate tails children → is_tail_taken tails children t ≡ false → AreSeparate (tails ++ t ∷ []) children
separate-tail tails children t h free =
    let both = neither (has_text tails t) (list_any (λ child. is_below child t) children) free in
    let new = none_passes (λ child. is_below child t) children both.1 in
    record {
      different = different-push tails t h.different (others_differ tails t both.0);
      free = free-push tails children t h.free (all_weaker (λ child. is_below child t ≡ false) (λ child. ¬ (IsBelow child t)) (λ child e. not_below child t e) children new);
      apart = h.apart;
    }

-- and so does a name that is free
separate-child : (tails children : List Text) (n : Text) → AreSeparate tails children → is_child_taken tails children n ≡ false → AreSeparate tails (children ++ n ∷ [])
separate-child tails children n h free =
    let both = neither (list_any (λ tail. is_below n tail) tails) (list_any (λ child. is_below child n || is_below n child) children) free in
    let above = none_passes (λ tail. is_below n tail) tails both.0 in
    let beside = none_passes (λ child. is_below child n || is_below n child) children both.1 in
    record {
      different = h.different;
      free = all_append (λ child. AllByRecursion (λ tail. ¬ (IsBelow child tail)) tails) children (n ∷ []) h.free
          (all_weaker (λ tail. is_below n tail ≡ false) (λ tail. ¬ (IsBelow n tail)) (λ tail e. not_below n tail e) tails above, tt);
      apart = apart-push children n h.apart
          (all_weaker (λ child. (is_below child n || is_below n child) ≡ false) (λ child. AreApart child n) (λ child e. both_ways child e) children beside);
    }
  where
    both_ways : (child : Text) → (is_below child n || is_below n child) ≡ false → AreApart child n
    both_ways child e =
        let either = neither (is_below child n) (is_below n child) e in
        record { not_above = not_below child n either.0; not_below = not_below n child either.1 }

module _ {M : Type 0} where
  -- the rules, in the registry at a path
  abbrev Separate : List (Call M) → Path → Type 0
  Separate calls p = AreSeparate (tails_of (metrics_at calls p)) (children_at calls p)

  absent : (calls : List (Call M)) (q : Path) (n : Text) (labels : Labels) (c : Bool) → if◌then◌else◌ {A = List (Call M)} c [] (Subsystem q n labels ∷ []) ≡ Subsystem q n labels ∷ [] → c ≡ false
  absent calls q n labels true e = absurd (nil_not_cons e)
    where
      nil_not_cons : {call : Call M} → [] ≡ call ∷ [] → ⊥
      nil_not_cons h = cc
  absent calls q n labels false e = refl

  separate_step : (b : History M) (call : Call M) (p : Path) → IsAccepted b call → Separate b.calls p → Separate (b.calls ++ call ∷ []) p
  separate_step b (Register q r) p h rules =
      let children : children_at (b.calls ++ Register q r ∷ []) p ≡ children_at b.calls p = children_at-++ b.calls (Register q r ∷ []) p ∙ append-nil (children_at b.calls p) in
      subst (λ ns. AreSeparate (tails_of (metrics_at (b.calls ++ Register q r ∷ []) p)) ns) (sym children)
      (subst (λ rs. AreSeparate (tails_of rs) (children_at b.calls p)) (sym (metrics_at-++ b.calls (Register q r ∷ []) p))
      (elim (path_eq q p) as (λ c. path_eq q p ≡ c → AreSeparate (tails_of (metrics_at b.calls p ++ (if c then r ∷ [] else []))) (children_at b.calls p)) [
        | true ↦ λ e.
            let free = subst (λ k. is_tail_taken (tails_of (metrics_at b.calls k)) (children_at b.calls k) (tail_of r) ≡ false) (same_path q p e) (registered_free b q r h.answer) in
            subst (λ ts. AreSeparate ts (children_at b.calls p)) (sym (map-append tail_of (metrics_at b.calls p) (r ∷ []))) (separate-tail (tails_of (metrics_at b.calls p)) (children_at b.calls p) (tail_of r) rules free)
        | false ↦ λ e. subst (λ rs. AreSeparate (tails_of rs) (children_at b.calls p)) (sym (append-nil (metrics_at b.calls p))) rules
      ] refl))
  separate_step b (Subsystem q n labels) p h rules =
      let metrics : metrics_at (b.calls ++ Subsystem q n labels ∷ []) p ≡ metrics_at b.calls p = metrics_at-++ b.calls (Subsystem q n labels ∷ []) p ∙ append-nil (metrics_at b.calls p) in
      subst (λ rs. AreSeparate (tails_of rs) (children_at (b.calls ++ Subsystem q n labels ∷ []) p)) (sym metrics)
      (subst (λ ns. AreSeparate (tails_of (metrics_at b.calls p)) ns) (sym (children_at-++ b.calls (Subsystem q n labels ∷ []) p))
      (elim (path_eq q p) as (λ c. path_eq q p ≡ c → AreSeparate (tails_of (metrics_at b.calls p)) (children_at b.calls p ++ (if c then n ∷ [] else []))) [
        | true ↦ λ e.
            let new = absent b.calls q n labels (has_text (children_at b.calls q) n) h.new in
            let free = child_free (b.depth + length q) (metrics_at b.calls q) (children_at b.calls q) n labels (asked_passed b q n labels h.answer) new in
            separate-child (tails_of (metrics_at b.calls p)) (children_at b.calls p) n rules
            (subst (λ k. is_child_taken (tails_of (metrics_at b.calls k)) (children_at b.calls k) n ≡ false) (same_path q p e) free)
        | false ↦ λ e. subst (λ ns. AreSeparate (tails_of (metrics_at b.calls p)) ns) (sym (append-nil (children_at b.calls p))) rules
      ] refl))

  separate_along : (calls : List (Call M)) (b : History M) (p : Path) → AreAccepted b calls → Separate b.calls p → Separate (b.calls ++ calls) p
  separate_along [] b p h rules = subst (λ cs. Separate cs p) (sym (append-nil b.calls)) rules
  separate_along (call ∷ calls) b p h rules =
      subst (λ cs. Separate cs p) (append_assoc b.calls (call ∷ []) calls) (separate_along calls (with_more b (call ∷ [])) p h.1 (separate_step b call p h.0 rules))

  -- the three rules hold in every registry of a history
  pub names_separate : (b : History M) (p : Path) → IsHistory b → AreSeparate (tails_of (metrics_at b.calls p)) (children_at b.calls p)
  names_separate b p h = separate_along b.calls (record b { calls = [] }) p h.accepted (record { different = tt; free = tt; apart = tt })

-- a name in the exposition is the tail after the namespace
printed-tail : (namespace : Option Text) (name : Text) (unit : Option Text) → printed_name namespace name unit ≡ prefixed_name namespace (suffixed_name name unit)
printed-tail None name unit = refl
printed-tail (Some outer) name None = refl
printed-tail (Some outer) name (Some unit) = append_assoc outer (codes "_" ++ name) (codes "_" ++ unit)

one_after : (namespace : Option Text) (a b : Text) → prefixed_name namespace a ≡ prefixed_name namespace b → a ≡ b
one_after None a b e = e
one_after (Some outer) a b e = append_cancel_left (codes "_") a b (append_cancel_left outer (codes "_" ++ a) (codes "_" ++ b) e)

-- a text after the namespace of a subsystem is below its name, after the namespace of its registry
after_below : (namespace : Option Text) (n t : Text) → prefixed_name namespace n ++ (codes "_" ++ t) ≡ prefixed_name namespace (n ++ (codes "_" ++ t))
after_below None n t = refl
after_below (Some outer) n t = append_assoc outer (codes "_" ++ n) (codes "_" ++ t)

-- the name comes after the namespace, and is below n
record IsPrintedBelow (namespace : Option Text) (n name : Text) : Type 0 where
  tail : Text
  is : name ≡ prefixed_name namespace tail
  below : IsBelow n tail

-- if two names lead to one text, they are the same or one is below the other
one_of : (n m r s : Text) → n ++ (codes "_" ++ r) ≡ m ++ (codes "_" ++ s) → (n ≡ m) ⊎ (IsBelow n m ⊎ IsBelow m n)
one_of [] [] r s e = inl refl
one_of [] (d ∷ m) r s e =
    let first : 95 ≡ d = cc in
    inr (inl (record { rest = m; is = ap (λ c. c ∷ m) (sym first) }))
one_of (c ∷ n) [] r s e =
    let first : c ≡ 95 = cc in
    inr (inr (record { rest = n; is = ap (λ d. d ∷ n) first }))
one_of (c ∷ n) (d ∷ m) r s e =
    let first : c ≡ d = cc in
    let rest : n ++ (codes "_" ++ r) ≡ m ++ (codes "_" ++ s) = cc in
    elim (one_of n m r s rest) as (λ _. (c ∷ n ≡ d ∷ m) ⊎ (IsBelow (c ∷ n) (d ∷ m) ⊎ IsBelow (d ∷ m) (c ∷ n))) [
      | inl same ↦ inl (λ i. first i ∷ same i)
      | inr (inl below) ↦ inr (inl (record { rest = below.rest; is = λ i. sym first i ∷ below.is i }))
      | inr (inr below) ↦ inr (inr (record { rest = below.rest; is = λ i. first i ∷ below.is i }))
    ]

-- names below two subsystems of one registry differ
apart_differ : (namespace : Option Text) (n m x y : Text) → AreApart n m → m ≢ n → IsPrintedBelow namespace n x → IsPrintedBelow namespace m y → y ≢ x
apart_differ namespace n m x y apart other h k same =
    let tails : h.tail ≡ k.tail = one_after namespace h.tail k.tail (sym h.is ∙ sym same ∙ k.is) in
    elim (one_of n m h.below.rest k.below.rest (sym h.below.is ∙ tails ∙ k.below.is)) as (λ _. ⊥)
    [ inl equal ↦ other (sym equal) | inr (inl below) ↦ apart.not_above below | inr (inr below) ↦ apart.not_below below ]

module _ (namespace : Option Text) (f : Text → List Text) (below : (n : Text) → AllByRecursion (λ x. IsPrintedBelow namespace n x) (f n)) where
  -- a name below one subsystem differs from all below others
  differs_from_others : (n x : Text) (ms : List Text) → IsPrintedBelow namespace n x → AllByRecursion (λ m. m ≢ n) ms → AllByRecursion (λ m. AreApart n m) ms → AllByRecursion (λ y. y ≢ x) (flat_map f ms)
  differs_from_others n x [] h others apart = tt
  differs_from_others n x (m ∷ ms) h others apart =
      all_append (λ y. y ≢ x) (f m) (flat_map f ms)
      (all_weaker (λ y. IsPrintedBelow namespace m y) (λ y. y ≢ x) (λ y k. apart_differ namespace n m x y apart.0 others.0 h k) (f m) (below m))
      (differs_from_others n x ms h others.1 apart.1)

  different-flat : (ns : List Text) → ((n : Text) → has_text ns n ≡ true → AllDifferent (f n)) → is_once ns ≡ true → AllApart ns → AllDifferent (flat_map f ns)
  different-flat [] each once apart = tt
  different-flat (n ∷ ns) each once apart =
      let both = both_once (has_text ns n) (is_once ns) once in
      different-++ (f n) (flat_map f ns) (each n (rw (bytes_eq-refl n) refl)) (different-flat ns (λ m there. each m (later m (bytes_eq n m) there)) both.1 apart.1)
      (all_weaker (λ x. IsPrintedBelow namespace n x) (λ x. AllByRecursion (λ y. y ≢ x) (flat_map f ns)) (λ x h. differs_from_others n x ns h (others_differ ns n both.0) apart.0) (f n) (below n))
    where
      later : (m : Text) (c : Bool) → has_text ns m ≡ true → (if c then true else has_text ns m) ≡ true
      later m true e = refl
      later m false e = e

  -- a tail that is below no subsystem gives another name than all of theirs
  tail_differs : (t : Text) (ms : List Text) → AllByRecursion (λ m. ¬ (IsBelow m t)) ms → AllByRecursion (λ y. y ≢ prefixed_name namespace t) (flat_map f ms)
  tail_differs t [] free = tt
  tail_differs t (m ∷ ms) free =
      all_append (λ y. y ≢ prefixed_name namespace t) (f m) (flat_map f ms)
      (all_weaker (λ y. IsPrintedBelow namespace m y) (λ y. y ≢ prefixed_name namespace t)
      (λ y k same. free.0 (subst (λ u. IsBelow m u) (one_after namespace k.tail t (sym k.is ∙ same)) k.below)) (f m) (below m))
      (tail_differs t ms free.1)

  tails_differ : (ts ms : List Text) → AllByRecursion (λ m. AllByRecursion (λ t. ¬ (IsBelow m t)) ts) ms → AllByRecursion (λ x. AllByRecursion (λ y. y ≢ x) (flat_map f ms)) (map (prefixed_name namespace) ts)
  tails_differ [] ms free = tt
  tails_differ (t ∷ ts) ms free = (
    tail_differs t ms (all_weaker (λ m. AllByRecursion (λ u. ¬ (IsBelow m u)) (t ∷ ts)) (λ m. ¬ (IsBelow m t)) (λ m h. h.0) ms free),
    tails_differ ts ms (all_weaker (λ m. AllByRecursion (λ u. ¬ (IsBelow m u)) (t ∷ ts)) (λ m. AllByRecursion (λ u. ¬ (IsBelow m u)) ts) (λ m h. h.1) ms free),
  )

-- the name comes after the namespace
abbrev IsAfter : Option Text → Text → Type 0
IsAfter namespace name = (tail : Text) × (name ≡ prefixed_name namespace tail)

tails_after : (namespace : Option Text) (ts : List Text) → AllByRecursion (IsAfter namespace) (map (prefixed_name namespace) ts)
tails_after namespace [] = tt
tails_after namespace (t ∷ ts) = ((t, refl), tails_after namespace ts)

below_after : (namespace : Option Text) (n name : Text) → IsAfter (Some (prefixed_name namespace n)) name → IsPrintedBelow namespace n name
below_after namespace n name h = record { tail = n ++ (codes "_" ++ h.0); is = h.1 ∙ after_below namespace n h.0; below = record { rest = h.0; is = refl } }

flat_after : (namespace : Option Text) (f : Text → List Text) (ns : List Text) → ((n : Text) → AllByRecursion (IsAfter (Some (prefixed_name namespace n))) (f n)) → AllByRecursion (IsAfter namespace) (flat_map f ns)
flat_after namespace f [] each = tt
flat_after namespace f (n ∷ ns) each =
    all_append (IsAfter namespace) (f n) (flat_map f ns)
    (all_weaker (IsAfter (Some (prefixed_name namespace n))) (IsAfter namespace) (λ name h. (n ++ (codes "_" ++ h.0), h.1 ∙ after_below namespace n h.0)) (f n) (each n))
    (flat_after namespace f ns each)

-- different tails after one namespace
different-after : (namespace : Option Text) (ts : List Text) → AllDifferent ts → AllDifferent (map (prefixed_name namespace) ts)
different-after namespace [] h = tt
different-after namespace (t ∷ ts) h = (each ts h.0, different-after namespace ts h.1)
  where
    each : (us : List Text) → AllByRecursion (λ u. u ≢ t) us → AllByRecursion (λ x. x ≢ prefixed_name namespace t) (map (prefixed_name namespace) us)
    each [] k = tt
    each (u ∷ us) k = ((λ same. k.0 (one_after namespace u t same)), each us k.1)

module _ {M : Type 0} where
  own_names : (namespace : Option Text) (labels : Labels) (rs : List (Registration M)) → map listed_name (listed_with namespace labels rs) ≡ map (prefixed_name namespace) (tails_of rs)
  own_names namespace labels [] = refl
  own_names namespace labels (r ∷ rs) = λ i. printed-tail namespace r.name (printed_unit r.unit) i ∷ own_names namespace labels rs i

  names-flat : (f : Text → List (Listed M)) (ns : List Text) → map listed_name (flat_map f ns) ≡ flat_map (λ n. map listed_name (f n)) ns
  names-flat f [] = refl
  names-flat f (n ∷ ns) = map-append listed_name (f n) (flat_map f ns) ∙ ap (λ xs. map listed_name (f n) ++ xs) (names-flat f ns)

  -- the names of the metrics down to a depth
  abbrev names_to : ℕ → History M → List Text
  names_to k b = map listed_name (order_to k b)

  names_to-suc : (k : ℕ) (b : History M) → names_to (suc k) b ≡ map (prefixed_name b.namespace) (tails_of (metrics_at b.calls [])) ++ flat_map (λ n. names_to k (history_below b n)) (children_at b.calls [])
  names_to-suc k b =
      map-append listed_name (listed_with b.namespace b.labels (metrics_at b.calls [])) (flat_map (λ n. order_to k (history_below b n)) (children_at b.calls []))
      ∙ (λ i. own_names b.namespace b.labels (metrics_at b.calls []) i ++ names-flat (λ n. order_to k (history_below b n)) (children_at b.calls []) i)

  names_after : (k : ℕ) (b : History M) → AllByRecursion (IsAfter b.namespace) (names_to k b)
  names_after zero b = subst (AllByRecursion (IsAfter b.namespace)) (sym (own_names b.namespace b.labels (metrics_at b.calls []))) (tails_after b.namespace (tails_of (metrics_at b.calls [])))
  names_after (suc k) b =
      subst (AllByRecursion (IsAfter b.namespace)) (sym (names_to-suc k b))
      (all_append (IsAfter b.namespace) (map (prefixed_name b.namespace) (tails_of (metrics_at b.calls []))) (flat_map (λ n. names_to k (history_below b n)) (children_at b.calls []))
      (tails_after b.namespace (tails_of (metrics_at b.calls [])))
      (flat_after b.namespace (λ n. names_to k (history_below b n)) (children_at b.calls []) (λ n. names_after k (history_below b n))))

  names_below : (k : ℕ) (b : History M) (n : Text) → AllByRecursion (λ x. IsPrintedBelow b.namespace n x) (names_to k (history_below b n))
  names_below k b n =
      all_weaker (IsAfter (Some (prefixed_name b.namespace n))) (λ x. IsPrintedBelow b.namespace n x) (λ x h. below_after b.namespace n x h) (names_to k (history_below b n)) (names_after k (history_below b n))

  names_different : (k : ℕ) (b : History M) → IsHistory b → AllDifferent (names_to k b)
  names_different zero b h =
      let rules = names_separate b [] h in
      subst AllDifferent (sym (own_names b.namespace b.labels (metrics_at b.calls []))) (different-after b.namespace (tails_of (metrics_at b.calls [])) rules.different)
  names_different (suc k) b h =
      let rules = names_separate b [] h in
      let tails = tails_of (metrics_at b.calls []) in
      let children = children_at b.calls [] in
      subst AllDifferent (sym (names_to-suc k b))
      (different-++ (map (prefixed_name b.namespace) tails) (flat_map (λ n. names_to k (history_below b n)) children)
      (different-after b.namespace tails rules.different)
      (different-flat b.namespace (λ n. names_to k (history_below b n)) (names_below k b) children (λ n there. names_different k (history_below b n) (IsHistory-below b n h there)) (is_once-children b [] h) rules.apart)
      (tails_differ b.namespace (λ n. names_to k (history_below b n)) (names_below k b) tails children rules.free))

  -- no two metrics of a history are printed under one name
  pub printed_names-different : (b : History M) → IsHistory b → AllDifferent (map listed_name (order b))
  printed_names-different b h = subst (λ ls. AllDifferent (map listed_name ls)) (sym (order-to b)) (names_different (length b.calls) b h)
