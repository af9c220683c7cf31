-- The metrics of a history stay fitting as it grows, and all fit in the order of the exposition.
use Rattle.std.proofs.Common.{◌≡◌, ℕ, zero, suc, ◌&&◌, Bool, true, false, List, [], ◌∷◌, ◌++◌, length, Option, None, Some, if◌then◌else◌, refl, sym, ap, subst, ◌∙◌, append_assoc, append-nil, true≢false, ◌⊎◌, inl, inr}
use Rattle.std.specs.Prelude.{flat_map}
use Rattle.std.specs.List.{AllByRecursion}
use Rattle.std.specs.Str.{bytes_eq}
use Rattle.std.proofs.lemmas.List.{map-append}
use Rattle.fm_grammar.proofs.Runs.{all_append}
use Rattle.fm_registry_rules.specs.Texts.{Text, Path, Labels, path_eq, has_text, merge_labels}
use Rattle.fm_registry_rules.specs.Registration.{Registration}
use Rattle.fm_registry_rules.specs.History.{Call, Subsystem, Register, History, root_history, metrics_at, children_at, labels_given, labels_along, labels_at, namespace_at, missing_along, with_more}
use Rattle.fm_registry_rules.specs.Answer.{NoSuchSubsystem, missing_name, metric_refusal, answer, after, after_if}
use Rattle.fm_registry_rules.specs.Accepted.{AreAccepted, IsHistory}
use Rattle.fm_registry_rules.specs.Listing.{Listed, listed_with, listed_at, order_from, order}
use Rattle.fm_registry_rules.specs.inside.Fitting.{EachFits}
use Rattle.fm_registry_rules.proofs.TextLemmas.{same_text, same_path, both_true}
use Rattle.fm_registry_rules.proofs.HistoryLemmas.{metrics_at-++, children_at-++, labels_given-++}
use Rattle.fm_registry_rules.proofs.AnswerLemmas.{or_then-none}

-- more names take none away
has_text-++ : (ns ms : List Text) (n : Text) → has_text ns n ≡ true → has_text (ns ++ ms) n ≡ true
has_text-++ [] ms n h = absurd (true≢false (sym h))
has_text-++ (k ∷ ns) ms n h =
    elim (bytes_eq k n) as (λ c. (if c then true else has_text ns n) ≡ true → (if c then true else has_text (ns ++ ms) n) ≡ true)
    [ true ↦ λ e. refl | false ↦ λ e. has_text-++ ns ms n e ] h

-- no name was missing
none_missing : (o : Option Text) → missing_name o ≡ None → o ≡ None
none_missing None h = refl
none_missing (Some name) h = absurd (some_not_none h)
  where
    some_not_none : Some (NoSuchSubsystem name) ≡ None → ⊥
    some_not_none e = cc

module _ {M : Type 0} where
  -- each name on a path below a registry is that of a subsystem
  abbrev pub Leads : List (Call M) → Path → Path → Type 0
  Leads calls target path = missing_along calls target path ≡ None

  -- the first name of such a path, and the rest
  pub first_leads : (calls : List (Call M)) (target : Path) (name : Text) (path : Path) → Leads calls target (name ∷ path) → (has_text (children_at calls target) name ≡ true) × Leads calls (target ++ name ∷ []) path
  first_leads calls target name path h = by (has_text (children_at calls target) name) h
    where
      some_not_none : Some name ≡ None → ⊥
      some_not_none e = cc

      by : (c : Bool) → (if c then missing_along calls (target ++ name ∷ []) path else Some name) ≡ None → (c ≡ true) × Leads calls (target ++ name ∷ []) path
      by true e = (refl, e)
      by false e = absurd (some_not_none e)

  -- it leads there after more calls
  leads-more : (calls more : List (Call M)) (target path : Path) → Leads calls target path → Leads (calls ++ more) target path
  leads-more calls more target [] h = refl
  leads-more calls more target (name ∷ path) h =
      let first = first_leads calls target name path h in
      let there : has_text (children_at (calls ++ more) target) name ≡ true = ap (λ ns. has_text ns name) (children_at-++ calls more target) ∙ has_text-++ (children_at calls target) (children_at more target) name first.0 in
      rw there (leads-more calls more (target ++ name ∷ []) path first.1)

  -- a path leads to the registry of a metric that is accepted, and of each that was
  pub registered-leads : (b : History M) (q : Path) (r : Registration M) → answer b (Register q r) ≡ None → Leads b.calls [] q
  registered-leads b q r none = none_missing (missing_along b.calls [] q) (or_then-none (missing_name (missing_along b.calls [] q)) (metric_refusal (metrics_at b.calls q) (children_at b.calls q) r) none).0

  metrics-lead : (calls : List (Call M)) (b : History M) (p : Path) → AreAccepted b calls → Leads (b.calls ++ calls) [] p ⊎ (metrics_at calls p ≡ [])
  metrics-lead [] b p h = inr refl
  metrics-lead (Subsystem q n labels ∷ calls) b p h =
      subst (λ cs. Leads cs [] p ⊎ (metrics_at calls p ≡ [])) (append_assoc b.calls (Subsystem q n labels ∷ []) calls)
      (metrics-lead calls (with_more b (Subsystem q n labels ∷ [])) p h.1)
  metrics-lead (Register q r ∷ calls) b p h =
      let rest = subst (λ cs. Leads cs [] p ⊎ (metrics_at calls p ≡ [])) (append_assoc b.calls (Register q r ∷ []) calls) (metrics-lead calls (with_more b (Register q r ∷ [])) p h.1) in
      let here = registered-leads b q r h.0.answer in
      elim (path_eq q p) as (λ c. path_eq q p ≡ c → Leads (b.calls ++ Register q r ∷ calls) [] p ⊎ ((if c then r ∷ metrics_at calls p else metrics_at calls p) ≡ []))
      [ true ↦ λ e. inl (leads-more b.calls (Register q r ∷ calls) [] p (subst (λ path. Leads b.calls [] path) (same_path q p e) here)) | false ↦ λ e. rest ] refl

  -- at each step of a path the calls give no labels
  abbrev GiveNone : List (Call M) → Path → Path → Type 0
  GiveNone more target [] = Unit {0}
  GiveNone more target (name ∷ path) = (labels_given more target name ≡ []) × GiveNone more (target ++ name ∷ []) path

  registered-give : (q : Path) (r : Registration M) (target path : Path) → GiveNone (Register q r ∷ []) target path
  registered-give q r target [] = tt
  registered-give q r target (name ∷ path) = (refl, registered-give q r (target ++ name ∷ []) path)

  -- a new subsystem is not on a path that led to a registry before it
  new-gives : (calls : List (Call M)) (q : Path) (n : Text) (labels : Labels) → has_text (children_at calls q) n ≡ false → (target : Path) (name : Text) → has_text (children_at calls target) name ≡ true → labels_given {M = M} (Subsystem q n labels ∷ []) target name ≡ []
  new-gives calls q n labels absent target name there = by (path_eq q target && bytes_eq n name) refl
    where
      by : (c : Bool) → (path_eq q target && bytes_eq n name) ≡ c → (if c then labels ++ [] else []) ≡ []
      by false e = refl
      by true e =
          (let both = both_true (path_eq q target) (bytes_eq n name) e in
          absurd (true≢false (sym there ∙ sym (λ i. has_text (children_at calls (same_path q target both.0 i)) (same_text n name both.1 i)) ∙ absent)))

  new-give : (calls : List (Call M)) (q : Path) (n : Text) (labels : Labels) → has_text (children_at calls q) n ≡ false → (target path : Path) → Leads calls target path → GiveNone (Subsystem q n labels ∷ []) target path
  new-give calls q n labels absent target [] h = tt
  new-give calls q n labels absent target (name ∷ path) h =
      let first = first_leads calls target name path h in
      (new-gives calls q n labels absent target name first.0, new-give calls q n labels absent (target ++ name ∷ []) path first.1)

  -- so the labels there are as before
  labels_along-more : (calls more : List (Call M)) (labels : Labels) (target path : Path) → GiveNone more target path → labels_along (calls ++ more) labels target path ≡ labels_along calls labels target path
  labels_along-more calls more labels target [] h = refl
  labels_along-more calls more labels target (name ∷ path) h =
      let given : labels_given (calls ++ more) target name ≡ labels_given calls target name = labels_given-++ calls more target name ∙ ap (λ ls. labels_given calls target name ++ ls) h.0 ∙ append-nil (labels_given calls target name) in
      ap (λ ls. labels_along (calls ++ more) (merge_labels labels ls) (target ++ name ∷ []) path) given
      ∙ labels_along-more calls more (merge_labels labels (labels_given calls target name)) (target ++ name ∷ []) path h.1

  -- and the metrics there are those before, and then those of the further calls
  listed_at-more : (b : History M) (more : List (Call M)) (p : Path) → GiveNone more [] p → listed_at (with_more b more) p ≡ listed_at b p ++ listed_with (namespace_at b p) (labels_at b p) (metrics_at more p)
  listed_at-more b more p none =
      (λ i. listed_with (namespace_at b p) (labels_along-more b.calls more b.labels [] p none i) (metrics_at-++ b.calls more p i))
      ∙ map-append (λ r. record { namespace = namespace_at b p; labels = labels_at b p; registration = r }) (metrics_at b.calls p) (metrics_at more p)

module _ {M : Type 0} (Fits : Listed M → Type 0) where
  -- a new root has no metrics
  pub EachFits-root_history : (namespace : Option Text) (labels : Labels) → EachFits Fits (root_history namespace labels)
  EachFits-root_history namespace labels path = tt

  registered-fits : (b : History M) (q : Path) (r : Registration M) → EachFits Fits b → Fits (record { namespace = namespace_at b q; labels = labels_at b q; registration = r }) → EachFits Fits (with_more b (Register q r ∷ []))
  registered-fits b q r each fits p =
      subst (AllByRecursion Fits) (sym (listed_at-more b (Register q r ∷ []) p (registered-give q r [] p)))
      (all_append Fits (listed_at b p) (listed_with (namespace_at b p) (labels_at b p) (metrics_at (Register q r ∷ []) p)) (each p) (by (path_eq q p) refl))
    where
      by : (c : Bool) → path_eq q p ≡ c → AllByRecursion Fits (listed_with (namespace_at b p) (labels_at b p) (if c then r ∷ [] else []))
      by true e = (subst (λ path. Fits (record { namespace = namespace_at b path; labels = labels_at b path; registration = r })) (same_path q p e) fits, tt)
      by false e = tt

  -- a metric that is registered where it fits
  pub EachFits-registered : (b : History M) (q : Path) (r : Registration M) → EachFits Fits b → (answer b (Register q r) ≡ None → Fits (record { namespace = namespace_at b q; labels = labels_at b q; registration = r })) → EachFits Fits (after b (Register q r))
  EachFits-registered b q r each fits =
      elim (answer b (Register q r)) as (λ o. answer b (Register q r) ≡ o → EachFits Fits (after_if o b (Register q r)))
      [ None ↦ λ e. registered-fits b q r each (fits e) | Some why ↦ λ e. each ] refl

  new-fits : (b : History M) (q : Path) (n : Text) (labels : Labels) → IsHistory b → EachFits Fits b → has_text (children_at b.calls q) n ≡ false → EachFits Fits (with_more b (Subsystem q n labels ∷ []))
  new-fits b q n labels h each absent p =
      let call = Subsystem q n labels in
      elim (metrics-lead b.calls (record b { calls = [] }) p h.accepted) [
        | inl leads ↦ subst (AllByRecursion Fits) (sym (listed_at-more b (call ∷ []) p (new-give b.calls q n labels absent [] p leads) ∙ append-nil (listed_at b p))) (each p)
        | inr none ↦ (let empty : metrics_at (b.calls ++ call ∷ []) p ≡ [] = metrics_at-++ b.calls (call ∷ []) p ∙ append-nil (metrics_at b.calls p) ∙ none in
            subst (λ rs. AllByRecursion Fits (listed_with (namespace_at b p) (labels_at (with_more b (call ∷ [])) p) rs)) (sym empty) tt)
      ]

  -- a subsystem has no metrics yet if it is new, and all that it had if it exists
  pub EachFits-subsystem : (b : History M) (q : Path) (n : Text) (labels : Labels) → IsHistory b → EachFits Fits b → EachFits Fits (after b (Subsystem q n labels))
  EachFits-subsystem b q n labels h each =
      elim (answer b (Subsystem q n labels)) as (λ o. EachFits Fits (after_if o b (Subsystem q n labels)))
      [ None ↦ by (has_text (children_at b.calls q) n) refl | Some why ↦ each ]
    where
      by : (c : Bool) → has_text (children_at b.calls q) n ≡ c → EachFits Fits (with_more b (if◌then◌else◌ {A = List (Call M)} c [] (Subsystem q n labels ∷ [])))
      by true e = subst (λ cs. EachFits Fits (record b { calls = cs })) (sym (append-nil b.calls)) each
      by false e = new-fits b q n labels h each e

  -- what holds at each path holds along the order of the exposition
  each_below : (list : Text → List (Listed M)) → ((n : Text) → AllByRecursion Fits (list n)) → (ns : List Text) → AllByRecursion Fits (flat_map list ns)
  each_below list each [] = tt
  each_below list each (n ∷ ns) = all_append Fits (list n) (flat_map list ns) (each n) (each_below list each ns)

  each_from : (b : History M) → EachFits Fits b → (depth : ℕ) (path : Path) → AllByRecursion Fits (order_from b depth path)
  each_from b each zero path = each path
  each_from b each (suc depth) path =
      all_append Fits (listed_at b path) (flat_map (λ name. order_from b depth (path ++ name ∷ [])) (children_at b.calls path))
      (each path) (each_below (λ name. order_from b depth (path ++ name ∷ [])) (λ name. each_from b each depth (path ++ name ∷ [])) (children_at b.calls path))

  pub order_fits : (b : History M) → EachFits Fits b → AllByRecursion Fits (order b)
  order_fits b each = each_from b each (length b.calls) []
