-- Names of labels that are tested one after the other.
use Rattle.std.proofs.Common.{◌≡◌, ℕ, ◌<◌, ◌+◌, List, [], ◌∷◌, ◌++◌, length, map, take, drop, get_or, Option, None, Some, refl, sym, ap, ◌∙◌, String, inl, inr}
use mathlib.Core.Logic.{⊎_elim}
use Rattle.std.proofs.lemmas.List.{take_more, drop_more, take-append-drop, map-append}
use Rattle.std.proofs.Math.Seq.{take-length}
use Rattle.std.specs.List.{AllByRecursion}
use Rattle.std.specs.String.{string_bytes}
use Rattle.std.specs.declared.alloc.Global.{Global}
use Rattle.std.specs.Borrow.{Bor}
use Rattle.fm_grammar.specs.Exposition.{Label}
use Rattle.fm_grammar.specs.Names.{IsLabelName, AllDifferent}
use Rattle.fm_registry_rules.specs.Texts.{Text}
use Rattle.fm_registry_rules.specs.Answer.{Refusal, Memory, or_then, label_refusal_after, labels_refusal_after}
use Rattle.fm_registry_rules.specs.LabelNames.{shown_texts, bare, names_refusal, AreLabelNames, IsOrMemory}
use Rattle.fm_registry_rules.proofs.RootLemmas.{root_labels_valid, labels_refusal_after-++}

name_of-bare : (names : List Text) → map (λ (l : Label). l.name) (bare names) ≡ names
name_of-bare [] = refl
name_of-bare (n ∷ names) = ap (λ ns. n ∷ ns) (name_of-bare names)

all_of-bare : (names : List Text) → AllByRecursion (λ (l : Label). IsLabelName l.name) (bare names) → AllByRecursion IsLabelName names
all_of-bare [] all = tt
all_of-bare (n ∷ names) all = (all.0, all_of-bare names all.1)

-- names that are not refused
pub names_valid : (names : List Text) → names_refusal names ≡ None → AreLabelNames names
names_valid names h = let valid = root_labels_valid (bare names) h in record { valid = all_of-bare names valid.names; different = rw name_of-bare at valid.different }

shown_more : (names : List (Bor Text)) (i : ℕ) (d : Bor Text) → i < length names → shown_texts (take (i + 1) names) ≡ shown_texts (take i names) ++ (get_or names i d).now ∷ []
shown_more names i d h = ap shown_texts (take_more names i d h) ∙ map-append (λ (text : Bor Text). text.now) (take i names) (get_or names i d ∷ [])

shown_at : (names : List (Bor Text)) (i : ℕ) (d : Bor Text) → i < length names → shown_texts names ≡ shown_texts (take i names) ++ ((get_or names i d).now ∷ shown_texts (drop (i + 1) names))
shown_at names i d h =
    ap shown_texts (sym (take-append-drop i names)) ∙ map-append (λ (text : Bor Text). text.now) (take i names) (drop i names)
    ∙ ap (λ (t : List (Bor Text)). shown_texts (take i names) ++ shown_texts t) (drop_more names i d h)

-- names in turn: if the first ones pass, the next decides
next_decides : (before rest : List Text) (name : Text) → names_refusal before ≡ None → names_refusal (before ++ name ∷ rest) ≡ or_then (label_refusal_after before name) (labels_refusal_after (before ++ name ∷ []) (bare rest))
next_decides before rest name h =
    ap (labels_refusal_after []) (map-append (λ (n : Text). let label : Label = record { name = n; value = [] } in label) before (name ∷ rest))
    ∙ labels_refusal_after-++ [] (bare before) (bare (name ∷ rest)) h
    ∙ ap (λ ns. labels_refusal_after ns (bare (name ∷ rest))) (name_of-bare before)

-- the name at an index passes
pub passes_next : (names : List (Bor Text)) (i : ℕ) (d : Bor Text) → i < length names → names_refusal (shown_texts (take i names)) ≡ None → label_refusal_after (shown_texts (take i names)) (get_or names i d).now ≡ None
    → names_refusal (shown_texts (take (i + 1) names)) ≡ None
passes_next names i d h before passes =
    ap names_refusal (shown_more names i d h) ∙ next_decides (shown_texts (take i names)) [] (get_or names i d).now before ∙ ap (λ o. or_then o None) passes

-- or is refused
pub refused_next : (names : List (Bor Text)) (i : ℕ) (d : Bor Text) (why : Refusal) → i < length names → names_refusal (shown_texts (take i names)) ≡ None → label_refusal_after (shown_texts (take i names)) (get_or names i d).now ≡ Some why
    → names_refusal (shown_texts names) ≡ Some why
refused_next names i d why h before refused =
    ap names_refusal (shown_at names i d h) ∙ next_decides (shown_texts (take i names)) (shown_texts (drop (i + 1) names)) (get_or names i d).now before ∙ ap (λ o. or_then o (labels_refusal_after (shown_texts (take i names) ++ (get_or names i d).now ∷ []) (bare (shown_texts (drop (i + 1) names))))) refused

-- one more name was copied
pub copied_next : (names : List (Bor Text)) (copies : List (String Global)) (copy : String Global) (i : ℕ) (d : Bor Text) → i < length names → map string_bytes copies ≡ shown_texts (take i names) → string_bytes copy ≡ (get_or names i d).now
    → map string_bytes (copies ++ copy ∷ []) ≡ shown_texts (take (i + 1) names)
copied_next names copies copy i d h before is = map-append string_bytes copies (copy ∷ []) ∙ (λ j. before j ++ is j ∷ []) ∙ sym (shown_more names i d h)

pub shown_all : (names : List (Bor Text)) (i : ℕ) → i ≡ length names → shown_texts (take i names) ≡ shown_texts names
shown_all names i h = rw h (ap shown_texts (take-length names))

-- no refusal, and so none was wanted
pub none_wanted : (wanted : Option Refusal) → IsOrMemory None wanted → wanted ≡ None
none_wanted wanted h = ⊎_elim (λ m. absurd (not_memory m)) (λ same. sym same) h
  where
    not_memory : None ≡ Some Memory → ⊥
    not_memory e = cc

-- a refused name refuses all of them
pub refused_all : (names : List (Bor Text)) (copies : List (String Global)) (i : ℕ) (d : Bor Text) (why : Refusal) → i < length names → map string_bytes copies ≡ shown_texts (take i names) → names_refusal (shown_texts (take i names)) ≡ None
    → IsOrMemory (Some why) (label_refusal_after (map string_bytes copies) (get_or names i d).now) → IsOrMemory (Some why) (names_refusal (shown_texts names))
refused_all names copies i d why h copied passed refused =
    ⊎_elim (λ m. inl m) (λ same. inr (sym (refused_next names i d why h passed (ap (λ ts. label_refusal_after ts (get_or names i d).now) (sym copied) ∙ sym same)))) refused
