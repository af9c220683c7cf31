-- Labels that samples share: their text, and the labels after them.
use Rattle.std.proofs.Common.{◌≡◌, ℕ, List, [], ◌∷◌, ◌++◌, length, take, refl, sym, ap, subst, ◌∙◌, append_assoc, append-nil, arith, map, Option, Some, None, IfSome, Result, Ok, Err, IfOk, Bor}
use Rattle.std.specs.Prelude.{slice_get}
use Rattle.std.proofs.lemmas.List.{map-append, take_all}
use Rattle.std.specs.declared.alloc.AllocError.{AllocError}
use Rattle.fm_grammar.specs.Exposition.{Text, Label}
use Rattle.fm_grammar.specs.Names.{IsLabelName, AllDifferent}
use Rattle.fm_grammar.specs.WellFormed.{AreLabels}
use Rattle.fm_grammar.specs.Spelling.{escaped, label_text, label_list_text, label_block_text}
use Rattle.fm_grammar.proofs.Labels.{label_then}
use Rattle.fm_grammar.proofs.Runs.{all_append}
use Rattle.fm_reader.specs.inside.Fronts.{AreNamed, IsLabelFront}
use Rattle.fm_reader.specs.inside.Parts.{IsListText, IsBracesFront, IsBlockFront}
use Rattle.fm_reader.specs.inside.Shared.{IsOwnLabel, IsNamedFront, IsCommonFront}
use Rattle.fm_reader.proofs.LabelLists.{with_commas, list_last, labels_named, labels_more}
use Rattle.fm_reader.proofs.Blocks.{block_first}
use Rattle.fm_reader.proofs.NameSets.{IsFresh, different_push, names_length}

-- the text of common labels

no_label_text : (label : Label) (s : Text) → [] ≡ label_text label ++ s → ⊥
no_label_text label s e = by label.name (e ∙ label_then label s)
  where
    by : (name : Text) → [] ≡ name ++ (61 ∷ 34 ∷ (escaped label.value ++ (34 ∷ s))) → ⊥
    by [] e = cc
    by (x ∷ name) e = cc

-- labels without a text are none
pub no_list_text : (text : Text) (labels : List Label) → IsListText text labels → text ≡ [] → labels ≡ []
no_list_text text [] is none = refl
no_list_text text (label ∷ []) is none = absurd (no_label_text label [] (sym none ∙ is.is ∙ sym (append-nil (label_text label))))
no_list_text text (label ∷ next ∷ labels) is none = absurd (no_label_text label (44 ∷ label_list_text (next ∷ labels)) (sym none ∙ is.is))

some_labels : (text : Text) (labels : List Label) → IsListText text labels → (text ≡ [] → ⊥) → labels ≡ [] → ⊥
some_labels text labels is some none = some (is.is ∙ ap label_list_text none)

-- a comma after each label, and one after all of them
commas_list : (label : Label) (labels : List Label) → with_commas (label ∷ labels) ≡ label_list_text (label ∷ labels) ++ (44 ∷ [])
commas_list label [] = refl
commas_list label (next ∷ labels) =
    ap (λ z. label_text label ++ (44 ∷ z)) (commas_list next labels) ∙ sym (append_assoc (label_text label) (44 ∷ label_list_text (next ∷ labels)) (44 ∷ []))

-- a last label comes after a comma
pub list_and_last : (labels : List Label) (last : Label) (s : Text) → (labels ≡ [] → ⊥) → label_list_text (labels ++ (last ∷ [])) ++ s ≡ label_list_text labels ++ (44 ∷ (label_text last ++ s))
list_and_last [] last s some = absurd (some refl)
list_and_last (label ∷ labels) last s some =
    list_last (label ∷ labels) last s ∙ ap (λ z. z ++ (label_text last ++ s)) (commas_list label labels) ∙ append_assoc (label_list_text (label ∷ labels)) (44 ∷ []) (label_text last ++ s)

-- a block whose labels are some labels
block_of : (labels : List Label) (rest : Text) → (labels ≡ [] → ⊥) → label_block_text labels ++ (32 ∷ rest) ≡ 123 ∷ (label_list_text labels ++ (125 ∷ 32 ∷ rest))
block_of [] rest some = absurd (some refl)
block_of (label ∷ labels) rest some = block_first label labels rest

not_nothing : (labels : List Label) (last : Label) → labels ++ (last ∷ []) ≡ [] → ⊥
not_nothing [] last e = cc
not_nothing (label ∷ labels) last e = cc

-- a block with a last label after others
block_and_last : (labels : List Label) (last : Label) (rest : Text) → (labels ≡ [] → ⊥) → label_block_text (labels ++ (last ∷ [])) ++ (32 ∷ rest) ≡ 123 ∷ (label_list_text labels ++ (44 ∷ (label_text last ++ (125 ∷ 32 ∷ rest))))
block_and_last labels last rest some =
    block_of (labels ++ (last ∷ [])) rest (not_nothing labels last) ∙ ap (λ z. 123 ∷ z) (list_and_last labels last (125 ∷ 32 ∷ rest) some)

-- reading after the common labels

pub only_common : (text inner after rest shared : Text) (common own : List Label) → IsListText shared common → (shared ≡ [] → ⊥) → text ≡ 123 ∷ inner → inner ≡ shared ++ after → after ≡ 125 ∷ 32 ∷ rest → own ≡ [] → IsBlockFront text (Some (common ++ own, rest))
only_common text inner after rest shared common own is some brace front closing none =
    subst (λ labels. IsBlockFront text (Some (labels, rest))) (sym (ap (λ z. common ++ z) none ∙ append-nil common)) (
      is.valid,
      brace ∙ ap (λ z. 123 ∷ z) (front ∙ ap (λ z. shared ++ z) closing ∙ ap (λ z. z ++ (125 ∷ 32 ∷ rest)) is.is) ∙ sym (block_of common rest (some_labels shared common is some)),
    )

names_append : (labels : List Label) (last : Label) → map (λ label. label.name) (labels ++ (last ∷ [])) ≡ map (λ label. label.name) labels ++ (last.name ∷ [])
names_append labels last = map-append (λ (label : Label). label.name) labels (last ∷ [])

with_last : (labels : List Label) (last : Label) → AreLabels labels → IsLabelName last.name → IsFresh last.name (map (λ label. label.name) labels) → AreLabels (labels ++ (last ∷ []))
with_last labels last are named fresh = record {
  names = all_append (λ (label : Label). IsLabelName label.name) labels (last ∷ []) are.names (named, tt);
  different = subst AllDifferent (sym (names_append labels last)) (different_push (map (λ label. label.name) labels) last.name are.different fresh);
}

pub common_and_own : (text inner after more rest shared : Text) (common own : List Label) → IsListText shared common → (shared ≡ [] → ⊥) → text ≡ 123 ∷ inner → inner ≡ shared ++ after → after ≡ 44 ∷ more → IsOwnLabel common more own rest → IsBlockFront text (Some (common ++ own, rest))
common_and_own text inner after more rest shared common own is some brace front comma (label, one, named, fresh, more_is) =
    subst (λ labels. IsBlockFront text (Some (common ++ labels, rest))) (sym one) (
      with_last common label is.valid named fresh,
      brace ∙ ap (λ z. 123 ∷ z) (front ∙ ap (λ z. shared ++ z) (comma ∙ ap (λ z. 44 ∷ z) more_is) ∙ ap (λ z. z ++ (44 ∷ (label_text label ++ (125 ∷ 32 ∷ rest)))) is.is) ∙ sym (block_and_last common label rest (some_labels shared common is some)),
    )

some_one : (a b : Label) → ◌≡◌ {A = Option Label} (Some a) (Some b) → a ≡ b
some_one a b e = cc

-- a label that was read alone, before a closing brace and a space
pub own_label : (common own : List Label) (label : Label) (text rest : Text) → IsBracesFront text (Some (own, rest)) → length own ≡ 1 → slice_get own 0 ≡ Some label → IsFresh label.name (map (λ other. other.name) common) → IsOwnLabel common text own rest
own_label common [] label text rest found one at fresh = absurd (omega (arith, one))
own_label common (first ∷ []) label text rest found one at fresh =
    (first, refl, found.0.names.0, subst (λ (l : Label). IsFresh l.name (map (λ other. other.name) common)) (sym (some_one first label at)) fresh, found.1)
own_label common (first ∷ next ∷ own) label text rest found one at fresh = absurd (omega (arith, one))

-- a name that none of so many common labels has, where there are so many
pub fresh_to_all : (common : List Label) (name : Text) (count : ℕ) → count ≡ length common → IsFresh name (take count (map (λ label. label.name) common)) → IsFresh name (map (λ label. label.name) common)
fresh_to_all common name count all fresh =
    let names = map (λ (label : Label). label.name) common in
    let whole : take count names ≡ names = take_all count names (omega (arith, all, names_length common)) in
    subst (IsFresh name) whole fresh

pub own_front : (text inner after more shared : Text) (common : List Label) (found : Result (Option (List Label × Bor Text)) AllocError) → IsListText shared common → (shared ≡ [] → ⊥) → text ≡ 123 ∷ inner → inner ≡ shared ++ after → after ≡ 44 ∷ more
    → IfOk found (λ own. IfSome own (λ front. IsOwnLabel common more front.0 front.1.now)) → IfOk found (λ own. IfSome own (λ front. IsBlockFront text (Some (common ++ front.0, front.1.now))))
own_front text inner after more shared common (Err e) is some brace front comma read = read
own_front text inner after more shared common (Ok None) is some brace front comma read = read
own_front text inner after more shared common (Ok (Some (own, rest))) is some brace front comma read = common_and_own text inner after more rest.now shared common own is some brace front comma read

pub no_common : (text : Text) (common own : List Label) → IsListText text common → text ≡ [] → common ++ own ≡ own
no_common text common own is none = ap (λ z. z ++ own) (no_list_text text common is none)

-- reading new common labels

commas_some : (labels : List Label) → (labels ≡ [] → ⊥) → with_commas labels ≡ label_list_text labels ++ (44 ∷ [])
commas_some [] some = absurd (some refl)
commas_some (label ∷ labels) some = commas_list label labels

-- labels that were read, each with its comma
pub named_front : (text rest : Text) (read new : List Label) (label : Label) (closing more : Text) → AreNamed read → text ≡ with_commas read ++ rest → IsLabelFront rest (Some (label, closing)) → closing ≡ 44 ∷ more → new ≡ read ++ (label ∷ []) → IsNamedFront text new more
named_front text rest read new label closing more named so_far found comma added =
    let some : new ≡ [] → ⊥ = λ none. not_nothing read label (sym added ∙ none) in (
      some,
      labels_named rest read new label closing named found added,
      labels_more text rest read new label closing more so_far found comma added ∙ ap (λ z. z ++ more) (commas_some new some) ∙ append_assoc (label_list_text new) (44 ∷ []) more,
    )

-- a block with new common labels and one label after them
pub parted_front : (text inner more rest : Text) (common lent own : List Label) → text ≡ 123 ∷ inner → IsCommonFront inner common more → lent ≡ common → IsOwnLabel lent more own rest → IsBlockFront text (Some (common ++ own, rest))
parted_front text inner more rest common lent own brace (some, valid, is) same read =
    common_and_own text inner (44 ∷ more) more rest (label_list_text common) common own (record { is = refl; valid = valid })
    (λ none. some (no_list_text (label_list_text common) common (record { is = refl; valid = valid }) none)) brace is refl (subst (λ ls. IsOwnLabel ls more own rest) same read)
