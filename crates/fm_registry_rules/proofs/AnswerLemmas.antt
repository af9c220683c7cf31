-- What a reply says, and the replies to calls below a subsystem.
use Rattle.std.proofs.Common.{◌≡◌, ℕ, ◌+◌, nat_le, Bool, true, false, not, List, [], ◌∷◌, ◌++◌, map, length, Option, None, Some, is_some, ◌⊎◌, inl, inr, if◌then◌else◌, refl, sym, ap, ◌∙◌, true≢false, ◌&&◌, arith}
use Rattle.fm_grammar.specs.NameTests.{is_snake_case, is_label_name}
use Rattle.fm_grammar.specs.Kinds.{takes_unit}
use Rattle.fm_grammar.specs.declared.MetricType.{MetricType}
use Rattle.fm_registry_rules.specs.Texts.{Text, Path, Labels, has_text}
use Rattle.fm_registry_rules.specs.Taken.{tail_of, tails_of, is_tail_taken, is_child_taken}
use Rattle.fm_registry_rules.specs.Registration.{Registration, SeenUnit, text_of_unit}
use Rattle.fm_registry_rules.specs.History.{Call, Subsystem, Register, History, metrics_at, children_at, missing_along, in_front, history_below, calls_below}
use Rattle.fm_registry_rules.specs.Answer.{Refusal, InvalidNameFormat, MustHaveAnEmptyUnitString, OtherUnitFormatMustBeLowercase, AlreadyExists, InvalidNamespace, InvalidSubsystemName, InvalidLabelName, DuplicateLabel, NoSuchSubsystem, TooDeep, NameTaken, IsReturned, MayTakeMemory, first_of, or_then, is_bad_unit, has_metric, metric_refusal, name_or_depth_refusal, first_bad_label, asking_refusal, new_name_refusal, child_refusal, subsystem_refusal, namespace_refusal, label_refusal_after, missing_name, answer, gained}
use Rattle.fm_registry_rules.specs.inside.Refusals.{name_refusal, standing_refusal}
use Rattle.fm_registry_rules.proofs.HistoryLemmas.{metrics_at-calls_below, children_at-calls_below, missing_along-calls_below}

some_not_none : {T : Type 0} {x : T} → Some x ≡ None → ⊥
some_not_none e = cc

cons_not_nil : {T : Type 0} {x : T} {xs : List T} → x ∷ xs ≡ [] → ⊥
cons_not_nil e = cc

-- what comes to nothing by a change of its items is nothing
map_empty : {A B : Type 0} (f : A → B) (xs : List A) → map f xs ≡ [] → xs ≡ []
map_empty f [] e = refl
map_empty f (x ∷ xs) e = absurd (cons_not_nil e)

-- a call that is not refused was to be accepted
pub accepted : (wanted : Option Refusal) → IsReturned None wanted → wanted ≡ None
accepted wanted h = elim h as (λ _. wanted ≡ None) [ inl e ↦ absurd (some_not_none (sym e.0)) | inr e ↦ sym e ]

pub none_from : {T : Type 0} (o : Option T) → is_some o ≡ false → o ≡ None
none_from None h = refl
none_from (Some x) h = absurd (true≢false h)

-- if two refusals together are none, both are none
pub or_then-none : (o later : Option Refusal) → or_then o later ≡ None → (o ≡ None) × (later ≡ None)
or_then-none None later h = (refl, h)
or_then-none (Some r) later h = absurd (some_not_none h)

-- if nothing later refuses, the first decides
or_then-first : (o : Option Refusal) → or_then o None ≡ o
or_then-first None = refl
or_then-first (Some r) = refl

-- if no test refuses, each of them passes
two_pass : (c d : Bool) (r s : Refusal) → first_of ((c, r) ∷ (d, s) ∷ []) ≡ None → (c ≡ false) × (d ≡ false)
two_pass true d r s h = absurd (some_not_none h)
two_pass false true r s h = absurd (some_not_none h)
two_pass false false r s h = (refl, refl)

three_pass : (c d e : Bool) (r s u : Refusal) → first_of ((c, r) ∷ (d, s) ∷ (e, u) ∷ []) ≡ None → (c ≡ false) × (d ≡ false) × (e ≡ false)
three_pass true d e r s u h = absurd (some_not_none h)
three_pass false true e r s u h = absurd (some_not_none h)
three_pass false false true r s u h = absurd (some_not_none h)
three_pass false false false r s u h = (refl, refl, refl)

pub not_false : (c : Bool) → not c ≡ false → c ≡ true
not_false true h = refl
not_false false h = absurd (true≢false h)

-- a subsystem whose name and depth pass
pub subsystem_passed : (depth : ℕ) (n : Text) → name_or_depth_refusal depth n ≡ None → (is_snake_case n ≡ true) × (nat_le 64 depth ≡ false)
subsystem_passed depth n h =
    let passed = two_pass (not (is_snake_case n)) (nat_le 64 depth) (InvalidSubsystemName n) (TooDeep n) h in
    (not_false (is_snake_case n) passed.0, passed.1)

-- a metric whose name, type and unit pass
pub name_passed : (n : Text) (t : MetricType) (u : Option SeenUnit) → name_refusal n t u ≡ None → (is_snake_case n ≡ true) × ((is_some u && not (takes_unit t)) ≡ false) × (is_bad_unit u ≡ false)
name_passed n t u h =
    let passed = three_pass (not (is_snake_case n)) (is_some u && not (takes_unit t)) (is_bad_unit u) (InvalidNameFormat n) (MustHaveAnEmptyUnitString n) (OtherUnitFormatMustBeLowercase (text_of_unit u)) h in
    (not_false (is_snake_case n) passed.0, passed.1, passed.2)

-- a label of a root that passes
pub label_passed : (before : List Text) (n : Text) → label_refusal_after before n ≡ None → (is_label_name n ≡ true) × (has_text before n ≡ false)
label_passed before n h =
    let passed = two_pass (not (is_label_name n)) (has_text before n) (InvalidLabelName n) (DuplicateLabel n) h in
    (not_false (is_label_name n) passed.0, passed.1)

-- a namespace that passes
pub namespace_passed : (n : Text) → namespace_refusal n ≡ None → is_snake_case n ≡ true
namespace_passed n h = not_false (is_snake_case n) (by (not (is_snake_case n)) h)
  where
    by : (c : Bool) → first_of ((c, InvalidNamespace n) ∷ []) ≡ None → c ≡ false
    by true e = absurd (some_not_none e)
    by false e = refl

-- if the first tests pass, the others decide
pub first_of-++ : (ts us : List (Bool × Refusal)) → None ≡ first_of ts → first_of (ts ++ us) ≡ first_of us
first_of-++ [] us h = refl
first_of-++ (t ∷ ts) us h =
    elim t.0 as (λ c. None ≡ (if c then Some t.1 else first_of ts) → (if c then Some t.1 else first_of (ts ++ us)) ≡ first_of us)
    [ true ↦ λ e. absurd (some_not_none (sym e)) | false ↦ λ e. first_of-++ ts us e ] h

-- the tests of a name, its type and its unit
abbrev name_tests : Text → MetricType → Option SeenUnit → List (Bool × Refusal)
name_tests name metric_type unit =
    (not (is_snake_case name), InvalidNameFormat name)
    ∷ (is_some unit && not (takes_unit metric_type), MustHaveAnEmptyUnitString name)
    ∷ (is_bad_unit unit, OtherUnitFormatMustBeLowercase (text_of_unit unit))
    ∷ []

-- a refusal of the first tests stays
first_of-stays : (ts us : List (Bool × Refusal)) (why : Refusal) → Some why ≡ first_of ts → first_of (ts ++ us) ≡ Some why
first_of-stays [] us why h = absurd (some_not_none h)
first_of-stays (t ∷ ts) us why h =
    elim t.0 as (λ c. Some why ≡ (if c then Some t.1 else first_of ts) → (if c then Some t.1 else first_of (ts ++ us)) ≡ Some why)
    [ true ↦ λ e. sym e | false ↦ λ e. first_of-stays ts us why e ] h

-- if no test refuses, the first ones don't
first_of-front : (ts us : List (Bool × Refusal)) → first_of (ts ++ us) ≡ None → first_of ts ≡ None
first_of-front [] us h = refl
first_of-front (t ∷ ts) us h =
    elim t.0 as (λ c. (if c then Some t.1 else first_of (ts ++ us)) ≡ None → (if c then Some t.1 else first_of ts) ≡ None)
    [ true ↦ λ e. e | false ↦ λ e. first_of-front ts us e ] h

module _ {M : Type 0} (there : List (Registration M)) (children : List Text) (r : Registration M) where
  -- if the name and the unit pass, what is there decides
  pub metric_refusal-named : None ≡ name_refusal r.name r.metric_type r.unit → metric_refusal there children r ≡ standing_refusal there children r
  metric_refusal-named h = first_of-++ (name_tests r.name r.metric_type r.unit) ((has_metric there r, AlreadyExists r.name) ∷ (is_tail_taken (tails_of there) children (tail_of r), NameTaken r.name) ∷ []) h

  -- if the name or the unit does not pass, nothing else decides
  pub metric_refusal-refused : (why : Refusal) → Some why ≡ name_refusal r.name r.metric_type r.unit → metric_refusal there children r ≡ Some why
  metric_refusal-refused why h = first_of-stays (name_tests r.name r.metric_type r.unit) ((has_metric there r, AlreadyExists r.name) ∷ (is_tail_taken (tails_of there) children (tail_of r), NameTaken r.name) ∷ []) why h

  -- a metric that is not refused has a name and a unit that pass
  pub name_refusal-none : metric_refusal there children r ≡ None → name_refusal r.name r.metric_type r.unit ≡ None
  name_refusal-none h = first_of-front (name_tests r.name r.metric_type r.unit) ((has_metric there r, AlreadyExists r.name) ∷ (is_tail_taken (tails_of there) children (tail_of r), NameTaken r.name) ∷ []) h

  -- and its tail is free
  pub tail_free : metric_refusal there children r ≡ None → is_tail_taken (tails_of there) children (tail_of r) ≡ false
  tail_free h = (two_pass (has_metric there r) (is_tail_taken (tails_of there) children (tail_of r)) (AlreadyExists r.name) (NameTaken r.name) (sym (metric_refusal-named (sym (name_refusal-none h))) ∙ h)).1

-- what is there is found with memory
pub standing_may : {M : Type 0} (there : List (Registration M)) (children : List Text) (r : Registration M) → MayTakeMemory (standing_refusal there children r)
standing_may there children r = two_may (has_metric there r) (is_tail_taken (tails_of there) children (tail_of r))
  where
    two_may : (c d : Bool) → MayTakeMemory (first_of ((c, AlreadyExists r.name) ∷ (d, NameTaken r.name) ∷ []))
    two_may true d = tt
    two_may false true = tt
    two_may false false = tt

-- a subsystem that is not refused has a name, a depth and labels that pass, and a name that is free
module _ {M : Type 0} (depth : ℕ) (there : List (Registration M)) (children : List Text) (n : Text) (labels : Labels) where
  pub name_allowed : subsystem_refusal depth there children n labels ≡ None → name_or_depth_refusal depth n ≡ None
  name_allowed h = (or_then-none _ _ (or_then-none (asking_refusal depth n labels) (child_refusal there children n) h).0).0

  pub labels_allowed : subsystem_refusal depth there children n labels ≡ None → first_bad_label labels ≡ None
  labels_allowed h = (or_then-none _ _ (or_then-none (asking_refusal depth n labels) (child_refusal there children n) h).0).1

  pub child_free : subsystem_refusal depth there children n labels ≡ None → has_text children n ≡ false → is_child_taken (tails_of there) children n ≡ false
  child_free h absent = by (is_child_taken (tails_of there) children n) (sym here ∙ (or_then-none (asking_refusal depth n labels) (child_refusal there children n) h).1)
    where
      here : child_refusal there children n ≡ first_of ((is_child_taken (tails_of there) children n, NameTaken n) ∷ [])
      here = rw absent refl

      by : (c : Bool) → first_of ((c, NameTaken n) ∷ []) ≡ None → c ≡ false
      by true e = absurd (some_not_none e)
      by false e = refl

module _ {M : Type 0} (there : List (Registration M)) (children : List Text) (n : Text) where
  -- a subsystem that is there is not refused for its name
  pub child_refusal-there : has_text children n ≡ true → child_refusal there children n ≡ None
  child_refusal-there h = rw h refl

  pub child_refusal-new : has_text children n ≡ false → child_refusal there children n ≡ new_name_refusal there children n
  child_refusal-new h = rw h refl

-- a subsystem that is there is refused for its depth and its labels alone
pub subsystem_refusal-there : {M : Type 0} (depth : ℕ) (there : List (Registration M)) (children : List Text) (n : Text) (labels : Labels) → has_text children n ≡ true
    → subsystem_refusal depth there children n labels ≡ asking_refusal depth n labels
subsystem_refusal-there depth there children n labels h =
    ap (λ o. or_then (asking_refusal depth n labels) o) (child_refusal-there there children n h) ∙ or_then-first (asking_refusal depth n labels)

module _ {M : Type 0} where
  -- a registration that is not refused has a free tail in its registry
  pub registered_free : (b : History M) (p : Path) (r : Registration M) → answer b (Register p r) ≡ None → is_tail_taken (tails_of (metrics_at b.calls p)) (children_at b.calls p) (tail_of r) ≡ false
  registered_free b p r h =
      tail_free (metrics_at b.calls p) (children_at b.calls p) r (or_then-none (missing_name (missing_along b.calls [] p)) (metric_refusal (metrics_at b.calls p) (children_at b.calls p) r) h).1

  -- what a subsystem that is not refused passed
  pub asked_passed : (b : History M) (p : Path) (n : Text) (labels : Labels) → answer b (Subsystem p n labels) ≡ None → subsystem_refusal (b.depth + length p) (metrics_at b.calls p) (children_at b.calls p) n labels ≡ None
  asked_passed b p n labels h =
      (or_then-none (missing_name (missing_along b.calls [] p)) (subsystem_refusal (b.depth + length p) (metrics_at b.calls p) (children_at b.calls p) n labels) h).1

  -- the reply of a history to a call below a subsystem is that of the subsystem's history
  pub answer-in_front : (b : History M) (n : Text) (call : Call M) → has_text (children_at b.calls []) n ≡ true → answer b (in_front n call) ≡ answer (history_below b n) call
  answer-in_front b n (Register p r) there =
      rw there (λ i. or_then (missing_name (missing_along-calls_below b.calls n [] p i)) (metric_refusal (metrics_at-calls_below b.calls n p i) (children_at-calls_below b.calls n p i) r))
  answer-in_front b n (Subsystem p m labels) there =
      let depths : b.depth + length (n ∷ p) ≡ (b.depth + 1) + length p = omega arith in
      rw there (λ i. or_then (missing_name (missing_along-calls_below b.calls n [] p i)) (subsystem_refusal (depths i) (metrics_at-calls_below b.calls n p i) (children_at-calls_below b.calls n p i) m labels))

  pub gained-in_front : (b : History M) (n : Text) (call : Call M) → gained b (in_front n call) ≡ map (in_front n) (gained (history_below b n) call)
  gained-in_front b n (Register p r) = refl
  gained-in_front b n (Subsystem p m labels) =
      ap (λ ms. if◌then◌else◌ {A = List (Call M)} (has_text ms m) [] (Subsystem (n ∷ p) m labels ∷ [])) (children_at-calls_below b.calls n p)
      ∙ elim (has_text (children_at (calls_below b.calls n) p) m) as (λ d. if◌then◌else◌ {A = List (Call M)} d [] (Subsystem (n ∷ p) m labels ∷ []) ≡ map (in_front n) (if◌then◌else◌ {A = List (Call M)} d [] (Subsystem p m labels ∷ [])))
      [ true ↦ refl | false ↦ refl ]

  -- a call below a subsystem that adds nothing adds nothing there
  pub gained_below-empty : (b : History M) (n : Text) (call : Call M) → gained b (in_front n call) ≡ [] → gained (history_below b n) call ≡ []
  gained_below-empty b n call none = map_empty (in_front n) (gained (history_below b n) call) (sym (gained-in_front b n call) ∙ none)

  -- a registration adds itself
  pub registered-gained : (b : History M) (p : Path) (r : Registration M) → ¬ (gained b (Register p r) ≡ [])
  registered-gained b p r e = cons_not_nil e

  -- a subsystem that adds nothing is there
  pub there_where_empty : (b : History M) (p : Path) (n : Text) (labels : Labels) → gained b (Subsystem p n labels) ≡ [] → has_text (children_at b.calls p) n ≡ true
  there_where_empty b p n labels none =
      elim (has_text (children_at b.calls p) n) as (λ c. if◌then◌else◌ {A = List (Call M)} c [] (Subsystem p n labels ∷ []) ≡ [] → c ≡ true)
      [ true ↦ λ e. refl | false ↦ λ e. absurd (cons_not_nil e) ] none

  -- a call below a subsystem that is not there
  pub missing-answer : (b : History M) (n : Text) (call : Call M) → has_text (children_at b.calls []) n ≡ false → answer b (in_front n call) ≡ Some (NoSuchSubsystem n)
  missing-answer b n (Register p r) absent = rw absent refl
  missing-answer b n (Subsystem p m labels) absent = rw absent refl

  -- a call is gained as it is, or not at all
  pub gained_cases : (b : History M) (call : Call M) → (gained b call ≡ []) ⊎ (gained b call ≡ call ∷ [])
  gained_cases b (Register p r) = inr refl
  gained_cases b (Subsystem p n labels) =
      elim (has_text (children_at b.calls p) n) as (λ c. (if◌then◌else◌ {A = List (Call M)} c [] (Subsystem p n labels ∷ []) ≡ []) ⊎ (if◌then◌else◌ {A = List (Call M)} c [] (Subsystem p n labels ∷ []) ≡ Subsystem p n labels ∷ []))
      [ true ↦ inl refl | false ↦ inr refl ]
