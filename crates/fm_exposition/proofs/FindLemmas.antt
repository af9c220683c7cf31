-- The first sample with a name and labels, family by family.
use Rattle.std.proofs.Common.{◌≡◌, ℕ, ◌+◌, ◌<◌, true, false, cond, length, get_or, drop, List, [], ◌∷◌, ◌++◌, Option, Some, None, refl, sym, ap, ◌∙◌}
use Rattle.std.specs.Borrow.{Bor}
use Rattle.std.specs.Prelude.{◌&&◌, find, flat_map, option_map}
use Rattle.std.specs.Str.Pattern.{FindsTextPrefix}
use Rattle.std.proofs.lemmas.Bool.Decides.{Decides-eqb}
use Rattle.std.proofs.lemmas.List.{at_drop_more}
use Rattle.fm_grammar.specs.Exposition.{Text, Label, Value, Family}
use Rattle.fm_exposition.specs.Same.{same_text}
use Rattle.fm_exposition.specs.Finding.{NamedSample, named_samples, is_named, value_among, first_value}

-- what comes after the same front decides
pub same_after : (front a b : Text) → same_text (front ++ a) (front ++ b) ≡ same_text a b
same_after [] a b = refl
same_after (x ∷ front) a b = ap (λ t. t && same_text (front ++ a) (front ++ b)) ((Decides-eqb x x).1 refl) ∙ same_after front a b

-- `strip_prefix` at a text that begins with another one
pub begins_with : (front text : Text) (x : Bor Text) → (k : ℕ) × FindsTextPrefix front text (Some k) × (x.now ≡ drop k text) × (length x.now + k ≡ length text) → text ≡ front ++ x.now
begins_with front text x h = h.1.1 ∙ ap (λ l. front ++ l) (sym h.2)

abbrev pub or_else : {X : Type 0} → Option X → Option X → Option X
or_else None o = o
or_else (Some x) o = Some x

-- the first of two lists, or else of the second
pub among-append : (name : Text) (labels : List Label) (xs ys : List NamedSample) → value_among name labels (xs ++ ys) ≡ or_else (value_among name labels xs) (value_among name labels ys)
among-append name labels [] ys = refl
among-append name labels (x ∷ xs) ys = elim (is_named name labels x) as (λ b. option_map (λ (n : NamedSample). n.sample.value) (cond b (Some x) (find (is_named name labels) (xs ++ ys))) ≡ or_else (option_map (λ (n : NamedSample). n.sample.value) (cond b (Some x) (find (is_named name labels) xs))) (value_among name labels ys)) [
  | true ↦ refl
  | false ↦ among-append name labels xs ys
]

-- of the families from an index on: what is told of the family there, or else of those after it
pub first_more : (name : Text) (labels : List Label) (families : List Family) (i : ℕ) (family : Family) (told : Option Value) → family ≡ get_or families i family → i < length families → told ≡ value_among name labels (named_samples family) → or_else told (first_value name labels (drop (i + 1) families)) ≡ first_value name labels (drop i families)
first_more name labels families i family told is within told_is =
    ap (λ o. or_else o (first_value name labels (drop (i + 1) families))) told_is
    ∙ sym (among-append name labels (named_samples family) (flat_map named_samples (drop (i + 1) families)))
    ∙ ap (λ f. first_value name labels (f ∷ drop (i + 1) families)) is
    ∙ sym (at_drop_more (first_value name labels) families i family within)
