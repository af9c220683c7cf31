-- Metrics whose labels' names are not refused fit.
use Rattle.std.proofs.Common.{◌≡◌, ℕ, zero, suc, ◌<◌, Bool, true, false, if◌then◌else◌, List, [], ◌∷◌, map, Option, None, Some, Result, Ok, Err, OnOk, inl, inr, refl, sym, subst, ◌∙◌, arith, true≢false, Contains, option_and_then}
use Rattle.std.specs.List.{AllByRecursion}
use Rattle.std.specs.Str.{bytes_eq}
use Rattle.std.specs.Cmp.Lexicographic.{bytes_decides}
use Rattle.fm_grammar.specs.declared.MetricType.{MetricType}
use Rattle.fm_grammar.specs.declared.MetricType.TheVariants as type
use Rattle.fm_grammar.specs.Names.{IsLabelName}
use Rattle.fm_registry_rules.specs.Texts.{Text, Labels, has_text}
use Rattle.fm_registry_rules.specs.Answer.{Refusal, DuplicateLabel, Memory, refusal_of, or_then}
use Rattle.fm_registry_rules.specs.declared.error.RegistryError.{RegistryError}
use Rattle.fm_registry_rules.specs.LabelNames.{AreLabelNames, names_refusal, IsOrMemory}
use Rattle.fm_registry_rules.proofs.NameListLemmas.{names_valid}
use Rattle.fm_labels.specs.Labels.{IsReserved, NameFits, label_names}
use Rattle.fm_labels.specs.ReservedNames.{refused_if_among, reserved_refusal}
use Rattle.fm_labels.specs.inside.FittingNames.{NamesFit}
use Rattle.fm_labels.specs.inside.FreeLabels.{AreFree}
use Rattle.fm_labels.proofs.NameLemmas.{AreFree-unless}
use Rattle.fastmetrics.specs.Roots.{constants_refusal}
use Rattle.fastmetrics.specs.Fits.{taken_refusal, facts_refusal, type_refusal, family_refusal}

-- a refusal of the first test, or none
pub first_refused : (e : Refusal) (first later : Option Refusal) → IsOrMemory (Some e) first → IsOrMemory (Some e) (or_then first later)
first_refused e first later (inl memory) = inl memory
first_refused e first later (inr same) = rw (← same) (inr refl)

pub later_refused : (answer first later : Option Refusal) → IsOrMemory None first → IsOrMemory answer later → IsOrMemory answer (or_then first later)
later_refused answer first later (inl memory) rest = absurd cc
later_refused answer first later (inr same) rest = rw (← same) rest

-- nothing was refused
pub none_refused : (refusal : Option Refusal) → IsOrMemory None refusal → refusal ≡ None
none_refused refusal (inl memory) = absurd cc
none_refused refusal (inr same) = sym same

pub both_none : (first later : Option Refusal) → or_then first later ≡ None → (first ≡ None) × (later ≡ None)
both_none (Some e) later none = absurd cc
both_none None later none = (refl, none)

test_false : (b : Bool) (why : Refusal) → (if b then Some why else None) ≡ None → b ≡ false
test_false true why none = absurd cc
test_false false why none = refl

split : (b : Bool) (why : Refusal) (later : Option Refusal) → (if b then Some why else later) ≡ None → (b ≡ false) × (later ≡ None)
split true why later none = absurd cc
split false why later none = (refl, none)

-- a text among others
has_contained : (ts : List Text) (t : Text) → Contains ts t → has_text ts t ≡ true
has_contained [] t (k, within, at) = absurd (omega arith)
has_contained (o ∷ os) t (zero, within, at) = rw ((bytes_decides o t).1 at) refl
has_contained (o ∷ os) t (suc k, within, at) = elim (bytes_eq o t) as (λ b. (if b then true else has_text os t) ≡ true) [ true ↦ refl | false ↦ has_contained os t (k, omega arith, at) ]

has_first : (t : Text) (ts : List Text) → has_text (t ∷ ts) t ≡ true
has_first t ts = rw ((bytes_decides t t).1 refl) refl

has_later : (o : Text) (ts : List Text) (t : Text) → has_text ts t ≡ true → has_text (o ∷ ts) t ≡ true
has_later o ts t there = elim (bytes_eq o t) as (λ b. (if b then true else has_text ts t) ≡ true) [ true ↦ refl | false ↦ there ]

absent : (labels : Labels) (name : Text) → has_text (map (λ label. label.name) labels) name ≡ false → ¬ (Contains (label_names labels) name)
absent labels name gone there = true≢false (sym (has_contained (label_names labels) name there) ∙ gone)

-- no constant label has the name
pub not_taken : (labels : Labels) (name : Text) → taken_refusal labels name ≡ None → ¬ (Contains (label_names labels) name)
not_taken labels name none = absent labels name (test_false _ _ none)

-- none of the names is that of a constant label
fresh : (labels : Labels) (names : List Text) → constants_refusal labels names ≡ None → (name : Text) → has_text names name ≡ true → has_text (map (λ label. label.name) labels) name ≡ false
fresh [] names none name there = refl
fresh (l ∷ labels) names none name there =
    (let parts = split (has_text names l.name) _ _ none in
    by (bytes_eq l.name name) refl parts.0 (fresh labels names parts.1 name there))
  where
    by : (b : Bool) → bytes_eq l.name name ≡ b → has_text names l.name ≡ false → has_text (map (λ label. label.name) labels) name ≡ false → has_text (map (λ label. label.name) (l ∷ labels)) name ≡ false
    by true same gone rest = absurd (true≢false (sym there ∙ subst (λ (t : Text). has_text names t ≡ false) ((bytes_decides l.name name).0 same) gone))
    by false other gone rest = rw other rest

-- nor is it one that the type reserves
not_reserved : (t : MetricType) (names : List Text) → reserved_refusal t names ≡ None → (name : Text) → has_text names name ≡ true → ¬ (IsReserved t name)
not_reserved t names none name there reserved =
    let refused : refused_if_among names name ≡ None = subst (λ (o : Option Text). option_and_then (refused_if_among names) o ≡ None) reserved none in
    true≢false (sym there ∙ test_false _ _ refused)

each_fits : (t : MetricType) (labels : Labels) (names : List Text) → AllByRecursion IsLabelName names → ((name : Text) → has_text names name ≡ true → (¬ (IsReserved t name)) × (¬ (Contains (label_names labels) name))) → AllByRecursion (NameFits t labels) names
each_fits t labels [] valid holds = tt
each_fits t labels (n ∷ names) valid holds = (
  record { valid = valid.0; free = (holds n (has_first n names)).0; fresh = (holds n (has_first n names)).1 },
  each_fits t labels names valid.1 (λ name there. holds name (has_later n names name there)),
)

names_fit : (t : MetricType) (labels : Labels) (names : List Text) → AreLabelNames names → reserved_refusal t names ≡ None → constants_refusal labels names ≡ None → NamesFit t labels names
names_fit t labels names are free others = record {
  each = each_fits t labels names are.valid (λ name there. (not_reserved t names free name there, absent labels name (fresh labels names others name there)));
  different = are.different;
}

-- no constant label has the name that the type reserves
pub none_reserved : (t : MetricType) (labels : Labels) → type_refusal t labels ≡ None → AreFree t labels
none_reserved t labels none =
    AreFree-unless t labels (λ has. not_taken labels has.0 (subst (λ (o : Option Text). option_and_then (taken_refusal labels) o ≡ None) has.1 none) has.2)

-- a family that is not refused
pub family_fits : (t : MetricType) (labels : Labels) (names : List Text) → AreLabelNames names → family_refusal labels t names ≡ None → AreFree t labels × NamesFit t labels names
family_fits t labels names are none =
    let first = both_none (type_refusal t labels) _ none in let rest = both_none (reserved_refusal t names) (constants_refusal labels names) first.1 in
    (none_reserved t labels first.0, names_fit t labels names are rest.0 rest.1)

-- facts that are not refused
pub facts_fit : (labels : Labels) (names : List Text) → facts_refusal labels names ≡ None → NamesFit type.Info labels names
facts_fit labels names none = let parts = both_none (names_refusal names) (constants_refusal labels names) none in names_fit type.Info labels names (names_valid names parts.0) refl parts.1

-- what fits where nothing is refused, fits where a test is passed
pub ok_fits : (r : Result (Unit {0}) RegistryError) (refusal : Option Refusal) (P : Type 0) → IsOrMemory (refusal_of r) refusal → (refusal ≡ None → P) → OnOk r P
ok_fits (Ok x) refusal P answer from = from (none_refused refusal answer)
ok_fits (Err e) refusal P answer from = tt

-- more than what holds at `Ok`
pub ok_more : (r : Result (Unit {0}) RegistryError) (P Q : Type 0) → OnOk r P → (P → Q) → OnOk r Q
ok_more (Ok x) P Q holds more = more holds
ok_more (Err e) P Q holds more = tt
