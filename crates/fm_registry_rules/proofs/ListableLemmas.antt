-- Every metric that a history lists makes a well-formed family.
use Rattle.std.proofs.Common.{◌≡◌, ℕ, zero, suc, ◌&&◌, not, Bool, true, false, List, [], ◌∷◌, length, Option, None, Some, IfSome, is_some, if◌then◌else◌, refl, sym, subst, true≢false}
use Rattle.std.specs.Prelude.{flat_map}
use Rattle.std.specs.List.{AllByRecursion}
use Rattle.std.specs.Str.{bytes_eq}
use Rattle.fm_grammar.specs.Names.{IsSnakeCase, IsUnitText}
use Rattle.fm_grammar.specs.Kinds.{takes_unit}
use Rattle.fm_grammar.specs.NameTests.{is_word}
use Rattle.fm_grammar.specs.WellFormed.{UnitFits, UnitAllowed, AreLabels}
use Rattle.fm_grammar.specs.declared.MetricType.{MetricType}
use Rattle.fm_grammar.specs.declared.MetricType.TheVariants.{Unknown, Gauge, Counter, StateSet, Info, Histogram, GaugeHistogram, Summary}
use Rattle.fm_grammar.proofs.Runs.{all_append}
use Rattle.fm_registry_rules.specs.Texts.{Text, Path, Labels, path_eq, has_text, prefixed_name, printed_name}
use Rattle.fm_registry_rules.specs.Registration.{Registration, SeenUnit, printed_unit}
use Rattle.fm_registry_rules.specs.History.{Call, Subsystem, Register, History, metrics_at, children_at, with_more, history_below}
use Rattle.fm_registry_rules.specs.Answer.{is_bad_unit}
use Rattle.fm_registry_rules.specs.inside.Refusals.{name_refusal}
use Rattle.fm_registry_rules.specs.Accepted.{AreAccepted, IsHistory}
use Rattle.fm_registry_rules.specs.Listing.{Listed, IsListable, listed_with, order}
use Rattle.fm_registry_rules.proofs.TextLemmas.{bytes_eq-refl}
use Rattle.fm_raw.proofs.NameLemmas.{snake_case_is, word_decides, snake_case_joined, snake_case_word}
use Rattle.fm_registry_rules.proofs.AnswerLemmas.{or_then-none, not_false, name_passed, name_refusal-none}
use Rattle.fm_registry_rules.proofs.DepthLemmas.{order_to, order-to}
use Rattle.fm_registry_rules.proofs.AcceptedLemmas.{IsHistory-below}

-- a type that has no unit was given none
unit_allowed : (t : MetricType) (u : Option SeenUnit) → (is_some u && not (takes_unit t)) ≡ false → UnitAllowed t (printed_unit u)
unit_allowed Unknown None h = refl
unit_allowed Unknown (Some u) h = absurd (true≢false h)
unit_allowed StateSet None h = refl
unit_allowed StateSet (Some u) h = absurd (true≢false h)
unit_allowed Info None h = refl
unit_allowed Info (Some u) h = absurd (true≢false h)
unit_allowed Gauge u h = tt
unit_allowed Counter u h = tt
unit_allowed Histogram u h = tt
unit_allowed GaugeHistogram u h = tt
unit_allowed Summary u h = tt

front_valid : (namespace : Option Text) (name : Text) → IfSome namespace IsSnakeCase → IsSnakeCase name → IsSnakeCase (prefixed_name namespace name)
front_valid None name h k = k
front_valid (Some namespace) name h k = snake_case_joined namespace name h k

unit_valid : (u : Option SeenUnit) → is_bad_unit u ≡ false → IfSome (printed_unit u) IsUnitText
unit_valid None h = tt
unit_valid (Some u) h = (word_decides u.text).0 (not_false (is_word u.text) h)

name_valid : (namespace : Option Text) (name : Text) (unit : Option Text) → IsSnakeCase (prefixed_name namespace name) → IfSome unit IsUnitText → IsSnakeCase (printed_name namespace name unit)
name_valid namespace name None front valid = front
name_valid namespace name (Some unit) front valid = snake_case_word (prefixed_name namespace name) unit front valid

unit_fits : (namespace : Option Text) (name : Text) (unit : Option Text) → IsSnakeCase (prefixed_name namespace name) → IfSome unit IsUnitText → UnitFits (printed_name namespace name unit) unit
unit_fits namespace name None front valid = tt
unit_fits namespace name (Some unit) front valid = (valid, record { front = prefixed_name namespace name; snake_case = front; is = refl })

module _ {M : Type 0} where
  -- a registration whose name and unit passed, in a registry with a valid namespace and valid labels
  pub listable : (namespace : Option Text) (labels : Labels) (r : Registration M) → IfSome namespace IsSnakeCase → AreLabels labels → name_refusal r.name r.metric_type r.unit ≡ None
      → IsListable (record { namespace = namespace; labels = labels; registration = r })
  listable namespace labels r outer valid passed =
      let tests = name_passed r.name r.metric_type r.unit passed in
      let front = front_valid namespace r.name outer (snake_case_is r.name tests.0) in
      let unit = unit_valid r.unit tests.2 in
      record {
        name = name_valid namespace r.name (printed_unit r.unit) front unit;
        unit = unit_fits namespace r.name (printed_unit r.unit) front unit;
        allowed = unit_allowed r.metric_type r.unit tests.1;
        labels = valid;
      }

  -- the name and the unit of every registered metric passed
  pub metrics_passed : (calls : List (Call M)) (b : History M) (p : Path) → AreAccepted b calls → AllByRecursion (λ r. name_refusal r.name r.metric_type r.unit ≡ None) (metrics_at calls p)
  metrics_passed [] b p h = tt
  metrics_passed (Subsystem q n labels ∷ calls) b p h = metrics_passed calls (with_more b (Subsystem q n labels ∷ [])) p h.1
  metrics_passed (Register q r ∷ calls) b p h =
      let rest = metrics_passed calls (with_more b (Register q r ∷ [])) p h.1 in
      elim (path_eq q p) as (λ c. AllByRecursion (λ m. name_refusal m.name m.metric_type m.unit ≡ None) (if c then r ∷ metrics_at calls p else metrics_at calls p))
      [ true ↦ (name_refusal-none (metrics_at b.calls q) (children_at b.calls q) r (or_then-none _ _ h.0.answer).1, rest) | false ↦ rest ]

  all_listable : (namespace : Option Text) (labels : Labels) (rs : List (Registration M)) → IfSome namespace IsSnakeCase → AreLabels labels → AllByRecursion (λ r. name_refusal r.name r.metric_type r.unit ≡ None) rs
      → AllByRecursion IsListable (listed_with namespace labels rs)
  all_listable namespace labels [] outer valid passed = tt
  all_listable namespace labels (r ∷ rs) outer valid passed = (listable namespace labels r outer valid passed.0, all_listable namespace labels rs outer valid passed.1)

  pub own_listable : (b : History M) → IsHistory b → AllByRecursion IsListable (listed_with b.namespace b.labels (metrics_at b.calls []))
  own_listable b h = all_listable b.namespace b.labels (metrics_at b.calls []) h.root.namespace h.root.labels (metrics_passed b.calls (record b { calls = [] }) [] h.accepted)

  -- what holds of the metrics of each name
  all_below : (list : Text → List (Listed M)) (ns : List Text) → ((n : Text) → has_text ns n ≡ true → AllByRecursion IsListable (list n)) → AllByRecursion IsListable (flat_map list ns)
  all_below list [] each = tt
  all_below list (n ∷ ns) each =
      all_append IsListable (list n) (flat_map list ns) (each n (rw (bytes_eq-refl n) refl)) (all_below list ns (λ m there. each m (later m (bytes_eq n m) there)))
    where
      later : (m : Text) (c : Bool) → has_text ns m ≡ true → (if c then true else has_text ns m) ≡ true
      later m true e = refl
      later m false e = e

  fits_to : (depth : ℕ) (b : History M) → IsHistory b → AllByRecursion IsListable (order_to depth b)
  fits_to zero b h = own_listable b h
  fits_to (suc depth) b h =
      all_append IsListable (listed_with b.namespace b.labels (metrics_at b.calls [])) (flat_map (λ n. order_to depth (history_below b n)) (children_at b.calls []))
      (own_listable b h) (all_below (λ n. order_to depth (history_below b n)) (children_at b.calls []) (λ n there. fits_to depth (history_below b n) (IsHistory-below b n h there)))

  -- each metric that a history lists
  pub listed_fits : (b : History M) → IsHistory b → AllByRecursion IsListable (order b)
  listed_fits b h = subst (λ ls. AllByRecursion IsListable ls) (sym (order-to b)) (fits_to (length b.calls) b h)
