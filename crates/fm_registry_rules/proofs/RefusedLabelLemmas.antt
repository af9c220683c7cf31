-- A root's labels, one after the other.
use Rattle.std.proofs.Common.{◌≡◌, ℕ, ◌+◌, Bool, true, false, List, [], ◌∷◌, ◌++◌, map, get_or, take, drop, Some, None, is_some, String, Global, slice_get, if◌then◌else◌, refl, sym, ap, append_assoc, ◌∙◌}
use Rattle.std.specs.Prelude.{MatchBool}
use Rattle.std.specs.List.{position_from}
use Rattle.std.specs.Str.{bytes_eq}
use Rattle.std.proofs.lemmas.List.{take_more, take-append-drop, map-append}
use Rattle.std.proofs.lemmas.Option.{get_or_from_slice_get, slice_get_within}
use Rattle.fm_grammar.specs.NameTests.{is_label_name}
use Rattle.fm_grammar.specs.LabelPairs.{label_of, labels_of}
use Rattle.fm_registry_rules.specs.Texts.{Text, Label, Labels, has_text}
use Rattle.fm_registry_rules.specs.Answer.{InvalidLabelName, DuplicateLabel, label_refusal_after, labels_refusal_after, root_labels_refusal, or_then}
use Rattle.fm_registry_rules.specs.inside.RootLabels.{label_fault, IsRefusedAt}
use Rattle.fm_registry_rules.proofs.RootLemmas.{labels_refusal_after-++}

-- the names of labels
abbrev pub names_of : Labels → List Text
names_of labels = map (λ l. l.name) labels

-- a name is among the labels if it has an index there
pub found-has_text : (ls : List (String Global × String Global)) (name : Text) (k : ℕ) → is_some (position_from (λ l. bytes_eq (label_of l).name name) k ls) ≡ has_text (names_of (labels_of ls)) name
found-has_text [] name k = refl
found-has_text (l ∷ ls) name k =
    elim (bytes_eq (label_of l).name name) as (λ c. is_some (if c then Some k else position_from (λ x. bytes_eq (label_of x).name name) (k + 1) ls) ≡ (if c then true else has_text (names_of (labels_of ls)) name))
    [ true ↦ refl | false ↦ found-has_text ls name (k + 1) ]

-- after labels that passed, a label decides
decides : (done rest : Labels) (label : Label) → labels_refusal_after [] done ≡ None
    → labels_refusal_after [] (done ++ label ∷ rest) ≡ or_then (label_refusal_after (names_of done) label.name) (labels_refusal_after (names_of done ++ label.name ∷ []) rest)
decides done rest label none = labels_refusal_after-++ [] done (label ∷ rest) none

-- a label that is refused
pub refused-invalid : (before : List Text) (name : Text) → is_label_name name ≡ false → label_refusal_after before name ≡ Some (label_fault name)
refused-invalid before name invalid = rw invalid refl

-- a label that is refused if its name came before, and else passes
pub refused-duplicate : (before : List Text) (name : Text) (r : Bool) → is_label_name name ≡ true → r ≡ has_text before name
    → MatchBool r (label_refusal_after before name ≡ Some (label_fault name)) (label_refusal_after before name ≡ None)
refused-duplicate before name true valid e = rw (valid, ← e) refl
refused-duplicate before name false valid e = rw (valid, ← e) refl

module _ (ls : List (String Global × String Global)) (i : ℕ) (l : String Global × String Global) (there : slice_get ls i ≡ Some l) (none : labels_refusal_after [] (labels_of (take i ls)) ≡ None) where
  more : take (i + 1) ls ≡ take i ls ++ l ∷ []
  more = take_more ls i l (slice_get_within ls i l there) ∙ ap (λ (x : String Global × String Global). take i ls ++ x ∷ []) (get_or_from_slice_get ls i l l there)

  whole : (take i ls ++ l ∷ []) ++ drop (i + 1) ls ≡ ls
  whole = ap (λ xs. xs ++ drop (i + 1) ls) (sym more) ∙ take-append-drop (i + 1) ls

  -- the first label that is refused
  pub refused-at : label_refusal_after (names_of (labels_of (take i ls))) (label_of l).name ≡ Some (label_fault (label_of l).name) → IsRefusedAt ls i
  refused-at h = record {
    label = l;
    there = there;
    why =
        ap (λ xs. root_labels_refusal (labels_of xs)) (sym whole)
        ∙ ap root_labels_refusal (map-append label_of (take i ls ++ l ∷ []) (drop (i + 1) ls) ∙ ap (λ xs. xs ++ labels_of (drop (i + 1) ls)) (map-append label_of (take i ls) (l ∷ [])))
        ∙ ap root_labels_refusal (append_assoc (labels_of (take i ls)) (label_of l ∷ []) (labels_of (drop (i + 1) ls)))
        ∙ decides (labels_of (take i ls)) (labels_of (drop (i + 1) ls)) (label_of l) none
        ∙ ap (λ o. or_then o (labels_refusal_after (names_of (labels_of (take i ls)) ++ (label_of l).name ∷ []) (labels_of (drop (i + 1) ls)))) h;
  }

  -- one label more that passes
  pub passed-at : label_refusal_after (names_of (labels_of (take i ls))) (label_of l).name ≡ None → labels_refusal_after [] (labels_of (take (i + 1) ls)) ≡ None
  passed-at h =
      ap (λ xs. labels_refusal_after [] (labels_of xs)) more ∙ ap (labels_refusal_after []) (map-append label_of (take i ls) (l ∷ []))
      ∙ decides (labels_of (take i ls)) [] (label_of l) none ∙ ap (λ o. or_then o None) h

-- the label that is refused, and why
pub refused-label : (ls : List (String Global × String Global)) (i : ℕ) (l : String Global × String Global) (c : Bool) → IsRefusedAt ls i → l ≡ get_or ls i l → is_label_name (label_of l).name ≡ c
    → Some (if c then DuplicateLabel (label_of l).name else InvalidLabelName (label_of l).name) ≡ root_labels_refusal (labels_of ls)
refused-label ls i l c refused at valid =
    let same : l ≡ refused.label = at ∙ get_or_from_slice_get ls i refused.label l refused.there in
    ap (λ d. Some (if d then DuplicateLabel (label_of l).name else InvalidLabelName (label_of l).name)) (sym valid)
    ∙ ap (λ x. Some (label_fault (label_of x).name)) same ∙ sym refused.why
