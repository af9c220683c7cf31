-- One metric more in a collection.
use Rattle.std.proofs.Common.{◌≡◌, ◌≢◌, ℕ, ◌<◌, ◌≤◌, ◌+◌, zero, suc, List, [], ◌∷◌, ◌++◌, map, Option, None, Some, Result, Ok, Err, OnOk, ◌⊎◌, Bor, length, get_or, slice_get, take, inl, inr, refl, sym, ap, subst, ◌∙◌, arith, true≢false, is_some}
use Rattle.std.specs.List.{AllByRecursion}
use Rattle.std.specs.Option.{option_map}
use Rattle.std.proofs.lemmas.List.{take_more}
use Rattle.std.proofs.lemmas.Grind.{flat_map-append}
use Rattle.std.proofs.lemmas.Option.{get_or_from_slice_get, slice_get_within, slice_get_cases}
use Rattle.fm_grammar.specs.Names.{AllDifferent}
use Rattle.fm_grammar.specs.Exposition.{Text, Exposition}
use Rattle.fm_grammar.specs.WellFormed.{AreLabels}
use Rattle.fm_grammar.proofs.Runs.{all_append}
use Rattle.fm_raw.specs.declared.encode_error.EncodeError.{EncodeError}
use Rattle.fm_raw.specs.declared.encode_error.EncodeError.TheVariants.{Memory}
use Rattle.fm_exposition.specs.Written.{IsWritersFault}
use Rattle.fm_registry_rules.specs.History.{History}
use Rattle.fm_registry_rules.specs.Registration.{Registration}
use Rattle.fm_registry_rules.specs.Tree.{Facts, Tree, Reads}
use Rattle.fm_registry_rules.specs.Listing.{Listed, listed_name, listed_with, own_metrics, listed_forest, listed_tree, IsListable, order}
use Rattle.fm_registry_rules.proofs.NameLemmas.{printed_names-different}
use Rattle.fm_encoder.specs.declared.metric.EncodeMetric.{Ghosts}
use Rattle.fm_encoder.proofs.FaultLemmas.{MetricHasFault-not_writing}
use Rattle.fm_core.specs.Seen.{listed_in}
use Rattle.fm_core.specs.inside.TreeView.{forest_of}
use Rattle.fm_core.specs.declared.registry.tree.Subsystem.{Subsystem}
use Rattle.fm_core.proofs.ListingLemmas.{listed_in-push, listed_forest-at}
use Rattle.fm_core.specs.Admits.{Admits, HoldsOfOne, Fault}

pub all_left : {A : Type 0} (P : A → Type 0) (xs ys : List A) → AllByRecursion P (xs ++ ys) → AllByRecursion P xs
all_left P [] ys h = tt
all_left P (x ∷ xs) ys h = (h.0, all_left P xs ys h.1)

pub all_right : {A : Type 0} (P : A → Type 0) (xs ys : List A) → AllByRecursion P (xs ++ ys) → AllByRecursion P ys
all_right P [] ys h = h
all_right P (x ∷ xs) ys h = all_right P xs ys h.1

-- the list before an element, and after it
split_at : {A : Type 0} (xs : List A) (i : ℕ) (x : A) → i < length xs → x ≡ get_or xs i x → (rest : List A) × (xs ≡ take i xs ++ x ∷ rest)
split_at [] i x within is = absurd (omega arith)
split_at (y ∷ xs) zero x within is = (xs, ap (λ z. z ∷ xs) (sym is))
split_at (y ∷ xs) (suc i) x within is = let split = split_at xs i x (omega arith) is in (split.0, ap (λ zs. y ∷ zs) split.1)

-- what holds of all elements holds of one
pub all_at : {A : Type 0} (P : A → Type 0) (xs : List A) (i : ℕ) (x : A) → slice_get xs i ≡ Some x → AllByRecursion P xs → P x
all_at P xs i x at all =
    let split = split_at xs i x (slice_get_within xs i x at) (sym (get_or_from_slice_get xs i x x at)) in
    (all_right P (take i xs) (x ∷ split.0) (subst (AllByRecursion P) split.1 all)).0

-- one element more
pub take_at : {A : Type 0} (xs : List A) (i : ℕ) (x : A) → slice_get xs i ≡ Some x → take (i + 1) xs ≡ take i xs ++ x ∷ []
take_at xs i x at = take_more xs i x (slice_get_within xs i x at) ∙ ap (λ y. take i xs ++ y ∷ []) (get_or_from_slice_get xs i x x at)

-- a list has no element at an index past its end
pub none_past : {A B : Type 0} (f : A → B) (xs : List B) (i : ℕ) (o : Option A) → option_map f o ≡ slice_get xs i → ((x : A) → o ≢ Some x) → length xs ≤ i
none_past f xs i None is none = elim (slice_get_cases xs i).1 [
  | inl (x, within, some, same) ↦ absurd (true≢false (sym (ap is_some (is ∙ some))))
  | inr (past, empty) ↦ past
]
none_past f xs i (Some x) is none = absurd (none x refl)

module _ {M : Type 0} (declared : Ghosts M) where
  pub Admits-++ : (ls ms : List (Listed M)) (d e : Exposition) → Admits declared ls d → Admits declared ms e → Admits declared (ls ++ ms) (d ++ e)
  Admits-++ [] ms d e h more = subst (λ (fs : Exposition). Admits declared ms (fs ++ e)) (sym h) more
  Admits-++ (x ∷ ls) ms d e (inl h) more = inl (h.0, Admits-++ ls ms d e h.1 more)
  Admits-++ (x ∷ ls) ms d e (inr (f, rest, is, own, h)) more = inr (f, rest ++ e, ap (λ (fs : Exposition). fs ++ e) is, own, Admits-++ ls ms rest e h more)

  -- what holds of each listed name holds of each family's
  collected_all : (P : Text → Type 0) (ls : List (Listed M)) (e : Exposition) → AllByRecursion P (map listed_name ls) → Admits declared ls e → AllByRecursion P (map (λ family. family.name) e)
  collected_all P [] e h admits = subst (λ (fs : Exposition). AllByRecursion P (map (λ family. family.name) fs)) (sym admits) tt
  collected_all P (l ∷ ls) e h (inl left_out) = collected_all P ls e h.1 left_out.1
  collected_all P (l ∷ ls) e h (inr (f, rest, is, own, admits)) = subst (λ (fs : Exposition). AllByRecursion P (map (λ family. family.name) fs)) (sym is) (subst P (sym own.0) h.0, collected_all P ls rest h.1 admits)

  -- if all listed names differ, and differ from further ones, so do those of the families
  pub families_differ : (ls : List (Listed M)) (e : Exposition) (further : List Text) → Admits declared ls e → AllDifferent (map listed_name ls ++ further) → AllDifferent (map (λ family. family.name) e ++ further)
  families_differ [] e further admits differ = subst (λ (fs : Exposition). AllDifferent (map (λ family. family.name) fs ++ further)) (sym admits) differ
  families_differ (l ∷ ls) e further (inl left_out) differ = families_differ ls e further left_out.1 differ.1
  families_differ (l ∷ ls) e further (inr (f, rest, is, own, admits)) differ =
      let Other : Text → Type 0 = λ other. other ≢ listed_name l in
      let others : AllByRecursion Other (map (λ family. family.name) rest ++ further) =
      all_append Other (map (λ family. family.name) rest) further (collected_all Other ls rest (all_left Other (map listed_name ls) further differ.0) admits) (all_right Other (map listed_name ls) further differ.0) in
      subst (λ (fs : Exposition). AllDifferent (map (λ family. family.name) fs ++ further)) (sym is)
      (subst (λ (n : Text). AllByRecursion (λ other. other ≢ n) (map (λ family. family.name) rest ++ further)) (sym own.0) others, families_differ ls rest further admits differ.1)

module _ {M : Type 0} where
  all_labels : (facts : Facts M) (registrations : List (Registration M)) → AllByRecursion (λ (l : Listed M). l.labels ≡ facts.labels) (listed_with facts.namespace facts.labels registrations)
  all_labels facts [] = tt
  all_labels facts (r ∷ rs) = (refl, all_labels facts rs)

  -- a registry's own metrics have its labels
  pub labels_at : (facts : Facts M) (i : ℕ) (l : Listed M) → slice_get (own_metrics facts) i ≡ Some l → l.labels ≡ facts.labels
  labels_at facts i l at = all_at (λ (m : Listed M). m.labels ≡ facts.labels) (own_metrics facts) i l at (all_labels facts facts.metrics)

  -- a registry that has metrics has the labels that each of them is listed with
  pub own_labels : (facts : Facts M) → AllByRecursion IsListable (own_metrics facts) → length (own_metrics facts) ≢ 0 → AreLabels facts.labels
  own_labels facts all some = by facts.metrics all some
    where
      by : (rs : List (Registration M)) → AllByRecursion IsListable (listed_with facts.namespace facts.labels rs) → length (listed_with facts.namespace facts.labels rs) ≢ 0 → AreLabels facts.labels
      by [] all some = absurd (some refl)
      by (r ∷ rs) all some = all.0.labels

  -- one registry more
  pub listed_in-next : (registries : List (Bor (Tree M))) (i : ℕ) (r : Bor (Tree M)) → i < length registries → r ≡ get_or registries i r → listed_in (take (i + 1) registries) ≡ listed_in (take i registries) ++ own_metrics r.now.facts
  listed_in-next registries i r within is =
      let more : take (i + 1) registries ≡ take i registries ++ r ∷ [] = take_more registries i r within ∙ ap (λ (y : Bor (Tree M)). take i registries ++ y ∷ []) (sym is) in
      ap (λ (rs : List (Bor (Tree M))). listed_in rs) more ∙ listed_in-push (take i registries) r

  -- the metrics of a subsystem with those below it are listable if all are
  pub IsListable-below : (own : List (Listed M)) (ss : List (Subsystem M)) (i : ℕ) (s : Subsystem M) → i < length ss → s ≡ get_or ss i s
      → AllByRecursion IsListable (own ++ listed_forest (forest_of ss)) → AllByRecursion IsListable (listed_tree s.registry)
  IsListable-below own ss i s within is all =
      let split = listed_forest-at ss i s within is in
      let before = listed_forest (forest_of (take i ss)) in
      let below = subst (AllByRecursion IsListable) split.1 (all_right IsListable own (listed_forest (forest_of ss)) all) in
      all_left IsListable (listed_tree s.registry) split.0 (all_right IsListable before (listed_tree s.registry ++ split.0) below)

module _ {M : Type 0} (P : Listed M → Type 0) where
  pub one-left : (ls ms : List (Listed M)) → HoldsOfOne P ls → HoldsOfOne P (ls ++ ms)
  one-left [] ms never = absurd never
  one-left (l ∷ ls) ms (inl here) = inl here
  one-left (l ∷ ls) ms (inr later) = inr (one-left ls ms later)

  pub one-right : (ls ms : List (Listed M)) → HoldsOfOne P ms → HoldsOfOne P (ls ++ ms)
  one-right [] ms one = one
  one-right (l ∷ ls) ms one = inr (one-right ls ms one)

  -- it holds of the metric at an index of a list
  pub one-at : (ls : List (Listed M)) (i : ℕ) (l : Listed M) → slice_get ls i ≡ Some l → P l → HoldsOfOne P ls
  one-at ls i l at here =
      let split = split_at ls i l (slice_get_within ls i l at) (sym (get_or_from_slice_get ls i l l at)) in
      subst (λ ms. HoldsOfOne P ms) (sym split.1) (one-right (take i ls) (l ∷ split.0) (inl here))

  -- it holds of a metric of a subsystem, or of one below
  pub one-below : (own : List (Listed M)) (ss : List (Subsystem M)) (i : ℕ) (s : Subsystem M) → i < length ss → s ≡ get_or ss i s
      → HoldsOfOne P (listed_tree s.registry) → HoldsOfOne P (own ++ listed_forest (forest_of ss))
  one-below own ss i s within is one =
      let split = listed_forest-at ss i s within is in
      let later = one-right (listed_forest (forest_of (take i ss))) (listed_tree s.registry ++ split.0) (one-left (listed_tree s.registry) split.0 one) in
      one-right own (listed_forest (forest_of ss)) (subst (λ ms. HoldsOfOne P ms) (sym split.1) later)

  -- what follows from it holds of one too
  pub one-weaker : (Q : Listed M → Type 0) → ((l : Listed M) → P l → Q l) → (ls : List (Listed M)) → HoldsOfOne P ls → HoldsOfOne Q ls
  one-weaker Q step [] never = absurd never
  one-weaker Q step (l ∷ ls) (inl here) = inl (step l here)
  one-weaker Q step (l ∷ ls) (inr later) = inr (one-weaker Q step ls later)

-- what an Ok promises holds of a result that is no error
pub on_ok : {A E P : Type 0} (r : Result A E) → ((e : E) → r ≢ Err e) → OnOk r P → P
on_ok (Ok x) not h = h
on_ok (Err e) not h = absurd (not e refl)

-- the names that a tree with a history lists differ
pub names_differ : {M : Type 0} (t : Tree M) (b : History M) (ls : List (Listed M)) → Reads t b → ls ≡ order b → AllDifferent (map listed_name ls)
names_differ t b ls reads is = subst (λ (ms : List (Listed _)). AllDifferent (map listed_name ms)) (sym is) (printed_names-different b reads.history)

-- no refusal in collecting is the writer's
pub refusal-not_writing : {M : Type 0} (declared : Ghosts M) (k : EncodeError) (ls : List (Listed M)) → (k ≡ Memory) ⊎ Fault declared k ls → ¬ (IsWritersFault k)
refusal-not_writing declared k ls (inl memory) writing = subst IsWritersFault memory writing
refusal-not_writing declared k [] (inr never) writing = absurd never
refusal-not_writing declared k (l ∷ ls) (inr (inl fault)) writing =
    let r = l.registration in
    MetricHasFault-not_writing k (declared.offers r.metric) (declared.stamps r.metric) (declared.may_fault r.metric) (listed_name l) r.metric_type l.labels fault writing
refusal-not_writing declared k (l ∷ ls) (inr (inr faults)) writing = refusal-not_writing declared k ls (inr faults) writing
