-- A list of labels at the front of a text, up to its closing brace.
use Rattle.std.proofs.Common.{◌≡◌, ◌≢◌, ℕ, List, [], ◌∷◌, ◌++◌, ◌⊎◌, inl, inr, ⊎_elim, refl, sym, ap, subst, ◌∙◌, append_assoc, arith, Some, None}
use Rattle.fm_grammar.specs.Exposition.{Text, Label}
use Rattle.fm_grammar.specs.Names.{IsLabelName}
use Rattle.fm_grammar.specs.Spelling.{escaped, label_text, label_list_text}
use Rattle.fm_grammar.proofs.Labels.{IsNamed, one_label, label_then}
use Rattle.fm_grammar.proofs.Runs.{all_append}
use Rattle.fm_reader.specs.inside.Fronts.{AreNamed, IsLabelFront, IsLabelsFront}

-- labels with a comma after each
abbrev pub with_commas : List Label → Text
with_commas [] = []
with_commas (label ∷ labels) = label_text label ++ (44 ∷ with_commas labels)

commas_then : (label : Label) (labels : List Label) (s : Text) → with_commas (label ∷ labels) ++ s ≡ label_text label ++ (44 ∷ (with_commas labels ++ s))
commas_then label labels s = append_assoc (label_text label) (44 ∷ with_commas labels) s

commas_append : (ls : List Label) (label : Label) (s : Text) → with_commas (ls ++ (label ∷ [])) ++ s ≡ with_commas ls ++ (label_text label ++ (44 ∷ s))
commas_append [] label s = commas_then label [] s
commas_append (l ∷ ls) label s =
    commas_then l (ls ++ (label ∷ [])) s ∙ ap (λ z. label_text l ++ (44 ∷ z)) (commas_append ls label s) ∙ sym (commas_then l ls (label_text label ++ (44 ∷ s)))

-- a last label has no comma after it
pub list_last : (ls : List Label) (label : Label) (s : Text) → label_list_text (ls ++ (label ∷ [])) ++ s ≡ with_commas ls ++ (label_text label ++ s)
list_last [] label s = refl
list_last (l ∷ []) label s = append_assoc (label_text l) (44 ∷ label_text label) s ∙ sym (commas_then l [] (label_text label ++ s))
list_last (l ∷ m ∷ ls) label s =
    append_assoc (label_text l) (44 ∷ label_list_text (m ∷ (ls ++ (label ∷ [])))) s
    ∙ ap (λ z. label_text l ++ (44 ∷ z)) (list_last (m ∷ ls) label s)
    ∙ sym (commas_then l (m ∷ ls) (label_text label ++ s))

list_then : (l m : Label) (ls : List Label) (s : Text) → label_list_text (l ∷ m ∷ ls) ++ s ≡ label_text l ++ (44 ∷ (label_list_text (m ∷ ls) ++ s))
list_then l m ls s = append_assoc (label_text l) (44 ∷ label_list_text (m ∷ ls)) s

open_brace_label : (label : Label) (s t : Text) → IsNamed label → 125 ∷ t ≡ label_text label ++ s → ⊥
open_brace_label label s t p e = by label.name p (e ∙ label_then label s)
  where
    by : (name : Text) → IsLabelName name → 125 ∷ t ≡ name ++ (61 ∷ 34 ∷ (escaped label.value ++ (34 ∷ s))) → ⊥
    by [] h e = absurd h
    by (x ∷ name) h e = let k : ◌≡◌ {A = ℕ} 125 x = cc in grind arith

pub no_empty : (text rest : Text) → ((rest : Text) → text ≢ 125 ∷ rest) → text ≡ label_list_text [] ++ (125 ∷ rest) → ⊥
no_empty text rest none e = none rest e

-- what is left where labels were read, each with its comma
pub left : (read : List Label) (rest : Text) (ls : List Label) (after : Text) → AreNamed read → AreNamed ls → with_commas read ++ rest ≡ label_list_text ls ++ (125 ∷ after)
    → ((read ≡ []) × (ls ≡ [])) ⊎ ((l : Label) × (more : List Label) × AreNamed (l ∷ more) × (ls ≡ read ++ (l ∷ more)) × (rest ≡ label_list_text (l ∷ more) ++ (125 ∷ after)))
left [] rest [] after p q e = inl (refl, refl)
left [] rest (l ∷ ls) after p q e = inr (l, ls, q, refl, e)
left (r ∷ read) rest [] after p q e = absurd (open_brace_label r (44 ∷ (with_commas read ++ rest)) after p.0 (sym e ∙ commas_then r read rest))
left (r ∷ read) rest (l ∷ []) after p q e =
    let h = one_label r l (44 ∷ (with_commas read ++ rest)) (125 ∷ after) p.0 q.0 (sym (commas_then r read rest) ∙ e) in
    let k : ◌≡◌ {A = ℕ} 44 125 = let z = h.1 in cc in
    absurd (omega arith)
left (r ∷ read) rest (l ∷ m ∷ ls) after p q e =
    let h = one_label r l (44 ∷ (with_commas read ++ rest)) (44 ∷ (label_list_text (m ∷ ls) ++ (125 ∷ after))) p.0 q.0 (sym (commas_then r read rest) ∙ e ∙ list_then l m ls (125 ∷ after)) in
    let tail : with_commas read ++ rest ≡ label_list_text (m ∷ ls) ++ (125 ∷ after) = let z = h.1 in cc in
    by h.0 (left read rest (m ∷ ls) after p.1 q.1 tail)
  where
    by : r ≡ l → (((read ≡ []) × ((m ∷ ls) ≡ [])) ⊎ ((k : Label) × (more : List Label) × AreNamed (k ∷ more) × ((m ∷ ls) ≡ read ++ (k ∷ more)) × (rest ≡ label_list_text (k ∷ more) ++ (125 ∷ after))))
        → (((r ∷ read) ≡ []) × ((l ∷ m ∷ ls) ≡ [])) ⊎ ((k : Label) × (more : List Label) × AreNamed (k ∷ more) × ((l ∷ m ∷ ls) ≡ (r ∷ read) ++ (k ∷ more)) × (rest ≡ label_list_text (k ∷ more) ++ (125 ∷ after)))
    by same (inl z) = absurd (let q = z.1 in cc)
    by same (inr z) = inr (z.0, z.1, z.2, (let tail = z.3 in cc), z.4)

-- the first label of a list, and the text after it
first_of_list : (l : Label) (more : List Label) (s : Text) → (closing : Text) × (label_list_text (l ∷ more) ++ (125 ∷ s) ≡ label_text l ++ closing) × ((closing ≡ 125 ∷ s) ⊎ ((t : Text) × (closing ≡ 44 ∷ t)))
first_of_list l [] s = (125 ∷ s, refl, inl refl)
first_of_list l (m ∷ more) s = (44 ∷ (label_list_text (m ∷ more) ++ (125 ∷ s)), list_then l m more (125 ∷ s), inr (label_list_text (m ∷ more) ++ (125 ∷ s), refl))

-- if no label is at the start of what is left
abbrev pub SomeLeft : List Label → Text → List Label → Text → Type 0
SomeLeft read rest ls after = (l : Label) × (more : List Label) × AreNamed (l ∷ more) × (ls ≡ read ++ (l ∷ more)) × (rest ≡ label_list_text (l ∷ more) ++ (125 ∷ after))

some_left : (text rest : Text) (read ls : List Label) (after : Text) → AreNamed read → text ≡ with_commas read ++ rest → ((r : Text) → text ≢ 125 ∷ r) → AreNamed ls → text ≡ label_list_text ls ++ (125 ∷ after) → SomeLeft read rest ls after
some_left text rest read ls after p so_far some q e = ⊎_elim
    (λ z. absurd (some after (e ∙ ap (λ k. label_list_text k ++ (125 ∷ after)) z.1)))
    (λ z. z)
    (left read rest ls after p q (sym so_far ∙ e))

pub no_label : (text rest : Text) (read : List Label) → AreNamed read → text ≡ with_commas read ++ rest → ((r : Text) → text ≢ 125 ∷ r) → IsLabelFront rest None → IsLabelsFront text None
no_label text rest read p so_far some none = λ ls after q e.
    let z = some_left text rest read ls after p so_far some q e in
    let f = first_of_list z.0 z.1 after in
    none z.0 f.0 z.2.0 (z.4 ∙ f.1)

-- if neither a brace nor a comma comes after a label
pub no_end : (text rest : Text) (read : List Label) (label : Label) (closing : Text) → AreNamed read → text ≡ with_commas read ++ rest → ((r : Text) → text ≢ 125 ∷ r) → IsLabelFront rest (Some (label, closing)) → ((r : Text) → closing ≢ 125 ∷ r) → ((r : Text) → closing ≢ 44 ∷ r) → IsLabelsFront text None
no_end text rest read label closing p so_far some found brace comma = λ ls after q e.
    let z = some_left text rest read ls after p so_far some q e in
    let f = first_of_list z.0 z.1 after in
    let h = one_label label z.0 closing f.0 found.0 z.2.0 (sym found.1 ∙ z.4 ∙ f.1) in
    ⊎_elim (λ k. brace after (h.1 ∙ k)) (λ k. comma k.0 (h.1 ∙ k.1)) f.2

pub labels_end : (text rest : Text) (read new : List Label) (label : Label) (closing last : Text) → AreNamed read → text ≡ with_commas read ++ rest → IsLabelFront rest (Some (label, closing)) → closing ≡ 125 ∷ last → new ≡ read ++ (label ∷ []) → IsLabelsFront text (Some (new, last))
labels_end text rest read new label closing last p so_far found brace more =
    subst (λ ls. IsLabelsFront text (Some (ls, last))) (sym more) (
      all_append IsNamed read (label ∷ []) p (found.0, tt),
      so_far ∙ ap (λ z. with_commas read ++ z) (found.1 ∙ ap (λ z. label_text label ++ z) brace) ∙ sym (list_last read label (125 ∷ last)),
    )

pub labels_named : (rest : Text) (read new : List Label) (label : Label) (closing : Text) → AreNamed read → IsLabelFront rest (Some (label, closing)) → new ≡ read ++ (label ∷ []) → AreNamed new
labels_named rest read new label closing p found more = subst AreNamed (sym more) (all_append IsNamed read (label ∷ []) p (found.0, tt))

pub labels_more : (text rest : Text) (read new : List Label) (label : Label) (closing after : Text) → text ≡ with_commas read ++ rest → IsLabelFront rest (Some (label, closing)) → closing ≡ 44 ∷ after → new ≡ read ++ (label ∷ []) → text ≡ with_commas new ++ after
labels_more text rest read new label closing after so_far found comma more =
    subst (λ ls. text ≡ with_commas ls ++ after) (sym more)
    (so_far ∙ ap (λ z. with_commas read ++ z) (found.1 ∙ ap (λ z. label_text label ++ z) comma) ∙ sym (commas_append read label after))

pub start_named : (read : List Label) → read ≡ [] → AreNamed read
start_named read e = subst AreNamed (sym e) tt

pub start_text : (text : Text) (read : List Label) → read ≡ [] → text ≡ with_commas read ++ text
start_text text read e = subst (λ ls. text ≡ with_commas ls ++ text) (sym e) refl
