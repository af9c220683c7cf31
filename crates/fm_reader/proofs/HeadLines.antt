-- Type lines and unit lines.
use Rattle.std.proofs.Common.{◌≡◌, ◌≢◌, ℕ, ◌<◌, ◌+◌, ◌-◌, ◌≤◌, Bool, true≢false, true, false, List, [], ◌∷◌, ◌++◌, length, take, get_or, refl, sym, ap, subst, ◌∙◌, append_assoc, codes, arith, Option, Some, None, MatchOption, Bor}
use Rattle.std.specs.List.{AllByRecursion, All, Contains}
use Rattle.std.specs.Str.Pattern.{FindsTextSuffix}
use Rattle.std.proofs.lemmas.List.{append_cancel_left, append_cancel_right, take_all}
use Rattle.std.proofs.lemmas.List.Elements.{All-more, All-contains}
use Rattle.fm_grammar.specs.declared.MetricType.{MetricType}
use Rattle.fm_grammar.specs.declared.MetricType.TheVariants.{Unknown, Gauge, Counter, StateSet, Info, Histogram, GaugeHistogram, Summary}
use Rattle.fm_grammar.specs.Exposition.{Text}
use Rattle.fm_grammar.specs.Kinds.{type_word, takes_unit}
use Rattle.fm_grammar.specs.Names.{IsSnakeCase, IsUnitText}
use Rattle.fm_grammar.specs.WellFormed.{EndsWithUnit, UnitAllowed}
use Rattle.fm_grammar.specs.Document.{IsTypeLine, IsUnitLine}
use Rattle.fm_grammar.proofs.Runs.{one_run, all_weaker, not_in_run}
use Rattle.fm_grammar.proofs.FamilyNames.{IsNameByte, snake_case_bytes}
use Rattle.fm_reader.proofs.LabelNames.{all_from}
use Rattle.fm_reader.specs.inside.Lines.{FoundType, FoundUnit}

-- type lines

after_type : (line after name : Text) (m : MetricType) → line ≡ codes "# TYPE " ++ after → IsTypeLine line name m → after ≡ name ++ (32 ∷ type_word m)
after_type line after name m cut e = append_cancel_left (codes "# TYPE ") after (name ++ (32 ∷ type_word m)) (sym cut ∙ e)

-- no space is in a name
name_unspaced : (name : Text) → IsSnakeCase name → AllByRecursion (λ b. b ≢ 32) name
name_unspaced name h = all_weaker IsNameByte (λ b. b ≢ 32) (λ b k e. omega arith) name (snake_case_bytes name h)

-- no space is at any index
abbrev pub LacksSpace : Text → Type 0
LacksSpace text = (i : ℕ) → i < length text → get_or text i 0 ≢ 32

pub type_other : (line : Text) → ((rest : Text) → line ≢ codes "# TYPE " ++ rest) → FoundType line None
type_other line none = λ name m n e. none _ e

pub type_no_space : (line after : Text) → line ≡ codes "# TYPE " ++ after → LacksSpace after → FoundType line None
type_no_space line after cut lacks = λ name m n e. not_in_run (λ b. b ≢ 32) after name 32 (type_word m) (all_from (λ b. b ≢ 32) after lacks) (after_type line after name m cut e) refl

type_parts : (line after name word other : Text) (m : MetricType) → line ≡ codes "# TYPE " ++ after → (after ≡ name ++ (32 ∷ word)) × LacksSpace name → IsSnakeCase other → IsTypeLine line other m → (name ≡ other) × (word ≡ type_word m)
type_parts line after name word other m cut split n e =
    let r = one_run (λ b. b ≢ 32) name other (32 ∷ word) (32 ∷ type_word m) (all_from (λ b. b ≢ 32) name split.1) (name_unspaced other n) (λ d. d refl) (λ d. d refl) (sym split.0 ∙ after_type line after other m cut e) in
    let k = r.1 in
    (r.0, cc)

pub type_bad_name : (line after name word : Text) → line ≡ codes "# TYPE " ++ after → (after ≡ name ++ (32 ∷ word)) × LacksSpace name → (IsSnakeCase name → ⊥) → FoundType line None
type_bad_name line after name word cut split bad = λ other m n e. bad (subst IsSnakeCase (sym (type_parts line after name word other m cut split n e).0) n)

pub type_bad_word : (line after name word : Text) → line ≡ codes "# TYPE " ++ after → (after ≡ name ++ (32 ∷ word)) × LacksSpace name → ((m : MetricType) → word ≢ type_word m) → FoundType line None
type_bad_word line after name word cut split bad = λ other m n e. bad m (type_parts line after name word other m cut split n e).1

pub type_found : (line after name word : Text) (m : MetricType) → line ≡ codes "# TYPE " ++ after → (after ≡ name ++ (32 ∷ word)) × LacksSpace name → IsSnakeCase name → word ≡ type_word m → FoundType line (Some (name, m))
type_found line after name word m cut split n is = (n, cut ∙ ap (λ z. codes "# TYPE " ++ z) (split.0 ∙ ap (λ z. name ++ (32 ∷ z)) is))

-- unit lines

pub unit_other : (line name : Text) (m : MetricType) → ((rest : Text) → line ≢ codes "# UNIT " ++ rest) → FoundUnit line name m None
unit_other line name m none = λ unit e fits allowed. none _ e

after_unit : (line name after unit : Text) → line ≡ codes "# UNIT " ++ after → IsUnitLine line name unit → after ≡ name ++ (32 ∷ unit)
after_unit line name after unit cut e = append_cancel_left (codes "# UNIT ") after (name ++ (32 ∷ unit)) (sym cut ∙ e)

pub unit_other_name : (line name after : Text) (m : MetricType) → line ≡ codes "# UNIT " ++ after → ((rest : Text) → after ≢ name ++ rest) → FoundUnit line name m None
unit_other_name line name after m cut none = λ unit e fits allowed. none _ (after_unit line name after unit cut e)

unit_spaced : (line name after spaced unit : Text) → line ≡ codes "# UNIT " ++ after → after ≡ name ++ spaced → IsUnitLine line name unit → spaced ≡ 32 ∷ unit
unit_spaced line name after spaced unit cut named e = append_cancel_left name spaced (32 ∷ unit) (sym named ∙ after_unit line name after unit cut e)

pub unit_no_space : (line name after spaced : Text) (m : MetricType) → line ≡ codes "# UNIT " ++ after → after ≡ name ++ spaced → ((rest : Text) → spaced ≢ 32 ∷ rest) → FoundUnit line name m None
unit_no_space line name after spaced m cut named none = λ unit e fits allowed. none _ (unit_spaced line name after spaced unit cut named e)

unit_is : (line name after spaced text unit : Text) → line ≡ codes "# UNIT " ++ after → after ≡ name ++ spaced → spaced ≡ 32 ∷ text → IsUnitLine line name unit → text ≡ unit
unit_is line name after spaced text unit cut named space e = let k = sym space ∙ unit_spaced line name after spaced unit cut named e in cc

unit_allowed : (m : MetricType) (unit : Text) → takes_unit m ≡ true → UnitAllowed m (Some unit)
unit_allowed Unknown unit e = cc
unit_allowed StateSet unit e = cc
unit_allowed Info unit e = cc
unit_allowed _ unit e = tt

pub no_unit_allowed : (m : MetricType) (unit : Text) → takes_unit m ≡ false → UnitAllowed m (Some unit) → ⊥
no_unit_allowed Unknown unit e h = cc
no_unit_allowed StateSet unit e h = cc
no_unit_allowed Info unit e h = cc
no_unit_allowed _ unit e h = cc

-- if one of the tests says no
pub unit_refused : (line name after spaced text : Text) (m : MetricType) → line ≡ codes "# UNIT " ++ after → after ≡ name ++ spaced → spaced ≡ 32 ∷ text → (UnitAllowed m (Some text) → IsUnitText text → EndsWithUnit name text → ⊥) → FoundUnit line name m None
unit_refused line name after spaced text m cut named space bad = λ unit e fits allowed.
    let same = unit_is line name after spaced text unit cut named space e in
    bad (subst (λ u. UnitAllowed m (Some u)) (sym same) allowed) (subst IsUnitText (sym same) fits.0) (subst (EndsWithUnit name) (sym same) fits.1)

pub unit_found : (line name after spaced text : Text) (m : MetricType) → line ≡ codes "# UNIT " ++ after → after ≡ name ++ spaced → spaced ≡ 32 ∷ text → takes_unit m ≡ true → IsUnitText text → EndsWithUnit name text → FoundUnit line name m (Some text)
unit_found line name after spaced text m cut named space takes word ends =
    (cut ∙ ap (λ z. codes "# UNIT " ++ z) (named ∙ ap (λ z. name ++ z) space), (word, ends), unit_allowed m text takes)

-- `strip_suffix` at a text
pub strip_suffix_text : (n s : Text) (r : Option (Bor Text)) → MatchOption r (FindsTextSuffix n s None) (λ x. (k : ℕ) × FindsTextSuffix n s (Some k) × (x.now ≡ take (length s - k) s) × (length x.now + k ≡ length s)) → MatchOption r ((front : Text) → s ≢ front ++ n) (λ x. s ≡ x.now ++ n)
strip_suffix_text n s None h = h
strip_suffix_text n s (Some x) h = h.1.1 ∙ ap (λ l. l ++ n) (sym h.2)

-- what a name ends with

pub no_unit_end : (name unit : Text) → ((front : Text) → name ≢ front ++ unit) → EndsWithUnit name unit → ⊥
no_unit_end name unit none h = none _ (h.is ∙ sym (append_assoc h.front (95 ∷ []) unit))

unit_front : (name unit front : Text) → name ≡ front ++ unit → (h : EndsWithUnit name unit) → front ≡ h.front ++ (95 ∷ [])
unit_front name unit front cut h = append_cancel_right front (h.front ++ (95 ∷ [])) unit (sym cut ∙ h.is ∙ sym (append_assoc h.front (95 ∷ []) unit))

pub no_underscore : (name unit front : Text) → name ≡ front ++ unit → ((rest : Text) → front ≢ rest ++ (95 ∷ [])) → EndsWithUnit name unit → ⊥
no_underscore name unit front cut none h = none h.front (unit_front name unit front cut h)

pub unit_end : (name unit front rest : Text) → name ≡ front ++ unit → front ≡ rest ++ (95 ∷ []) → IsSnakeCase rest → EndsWithUnit name unit
unit_end name unit front rest cut under n = record { front = rest; snake_case = n; is = cut ∙ ap (λ z. z ++ unit) under ∙ append_assoc rest (95 ∷ []) unit }

pub unit_end_name : (name unit front rest : Text) → name ≡ front ++ unit → front ≡ rest ++ (95 ∷ []) → EndsWithUnit name unit → IsSnakeCase rest
unit_end_name name unit front rest cut under h = subst IsSnakeCase (append_cancel_right h.front rest (95 ∷ []) (sym (unit_front name unit front cut h) ∙ under)) h.snake_case
