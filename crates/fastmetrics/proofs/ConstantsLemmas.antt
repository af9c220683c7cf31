-- Which constant label is among names.
use Rattle.std.proofs.Common.{◌≡◌, ℕ, zero, suc, ◌+◌, ◌<◌, Bool, true, false, if◌then◌else◌, List, [], ◌∷◌, ◌++◌, length, map, take, get_or, Option, None, Some, String, refl, sym, ap, ◌∙◌, arith, true≢false}
use Rattle.std.specs.Str.{bytes_eq}
use Rattle.std.specs.String.{string_bytes}
use Rattle.std.specs.declared.alloc.Global.{Global}
use Rattle.fm_grammar.specs.LabelPairs.{label_of, labels_of}
use Rattle.fm_grammar.specs.Exposition.{Label}
use Rattle.fm_registry_rules.specs.LabelNames.{shown_texts}
use Rattle.std.proofs.lemmas.List.{take_more, map-append}
use Rattle.std.specs.Borrow.{Bor}
use Rattle.fm_registry_rules.specs.Texts.{Text, has_text}
use Rattle.fm_registry_rules.specs.Answer.{Refusal, DuplicateLabel}
use Rattle.fastmetrics.specs.Roots.{constants_refusal}

-- no refusal: the test was false, and there was none later
split : (b : Bool) (first : Refusal) (later : Option Refusal) → (if b then Some first else later) ≡ None → (b ≡ false) × (later ≡ None)
split true first later none = absurd cc
split false first later none = (refl, none)

-- no constant label up to an index is among the names, and that at the index is
pub refused_there : (pairs : List (String Global × String Global)) (names : List Text) (i : ℕ) (pair : String Global × String Global) → i < length pairs → pair ≡ get_or pairs i pair → constants_refusal (labels_of (take i pairs)) names ≡ None
    → has_text names (string_bytes pair.0) ≡ true → constants_refusal (labels_of pairs) names ≡ Some (DuplicateLabel (string_bytes pair.0))
refused_there [] names i pair within is none there = absurd (omega arith)
refused_there (p ∷ pairs) names zero pair within is none there = rw (← is) (rw there refl)
refused_there (p ∷ pairs) names (suc i) pair within is none there =
    let parts = split (has_text names (string_bytes p.0)) _ _ none in
    rw parts.0 (refused_there pairs names i pair (omega arith) is parts.1 there)

-- nor is that at the index
pub none_there : (pairs : List (String Global × String Global)) (names : List Text) (i : ℕ) (pair : String Global × String Global) → i < length pairs → pair ≡ get_or pairs i pair → constants_refusal (labels_of (take i pairs)) names ≡ None
    → has_text names (string_bytes pair.0) ≡ false → constants_refusal (labels_of (take (suc i) pairs)) names ≡ None
none_there [] names i pair within is none gone = absurd (omega arith)
none_there (p ∷ pairs) names zero pair within is none gone = rw (rw is at gone) refl
none_there (p ∷ pairs) names (suc i) pair within is none gone =
    let parts = split (has_text names (string_bytes p.0)) _ _ none in
    rw parts.0 (none_there pairs names i pair (omega arith) is parts.1 gone)

-- the label at an index has the name, and none before it
pub label_there : (pairs : List (String Global × String Global)) (name : Text) (i : ℕ) (pair : String Global × String Global) → i < length pairs → pair ≡ get_or pairs i pair → bytes_eq (string_bytes pair.0) name ≡ true → has_text (map (λ label. label.name) (labels_of pairs)) name ≡ true
label_there [] name i pair within is same = absurd (omega arith)
label_there (p ∷ pairs) name zero pair within is same = rw (← is) (rw same refl)
label_there (p ∷ pairs) name (suc i) pair within is same =
    elim (bytes_eq (string_bytes p.0) name) as (λ b. (if b then true else has_text (map (λ label. label.name) (labels_of pairs)) name) ≡ true) [ true ↦ refl | false ↦ label_there pairs name i pair (omega arith) is same ]

split_bool : (b later : Bool) → (if b then true else later) ≡ false → (b ≡ false) × (later ≡ false)
split_bool true later none = absurd cc
split_bool false later none = (refl, none)

pub no_label_there : (pairs : List (String Global × String Global)) (name : Text) (i : ℕ) (pair : String Global × String Global) → i < length pairs → pair ≡ get_or pairs i pair → has_text (map (λ label. label.name) (labels_of (take i pairs))) name ≡ false → bytes_eq (string_bytes pair.0) name ≡ false
    → has_text (map (λ label. label.name) (labels_of (take (suc i) pairs))) name ≡ false
no_label_there [] name i pair within is none other = absurd (omega arith)
no_label_there (p ∷ pairs) name zero pair within is none other = rw (rw is at other) refl
no_label_there (p ∷ pairs) name (suc i) pair within is none other =
    let parts = split_bool (bytes_eq (string_bytes p.0) name) _ none in
    rw parts.0 (no_label_there pairs name i pair (omega arith) is parts.1 other)

-- one name more
pub names_more : (facts : List (String Global × String Global)) (i : ℕ) (fact : String Global × String Global) (names : List (Bor Text)) (name : Bor Text) → i < length facts → fact ≡ get_or facts i fact → shown_texts names ≡ map (λ label. label.name) (labels_of (take i facts)) → name.now ≡ string_bytes fact.0
    → shown_texts (names ++ name ∷ []) ≡ map (λ label. label.name) (labels_of (take (i + 1) facts))
names_more facts i fact names name within is so_far same =
    let items : take (i + 1) facts ≡ take i facts ++ fact ∷ [] = take_more facts i fact within ∙ ap (λ f. take i facts ++ f ∷ []) (sym is) in
    map-append (λ (text : Bor Text). text.now) names (name ∷ [])
    ∙ (λ j. so_far j ++ same j ∷ [])
    ∙ sym (ap (λ (fs : List (String Global × String Global)). map (λ label. label.name) (labels_of fs)) items ∙ ap (map (λ (label : Label). label.name)) (map-append label_of (take i facts) (fact ∷ [])) ∙ map-append (λ (label : Label). label.name) (labels_of (take i facts)) (label_of fact ∷ []))
