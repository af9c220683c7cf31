-- Label blocks, and the labels in an exemplar's braces.
use Rattle.std.proofs.Common.{◌≡◌, ◌≢◌, ℕ, List, [], ◌∷◌, ◌++◌, length, ◌==◌, true, false, refl, sym, ap, subst, ◌∙◌, arith, Some, None, map}
use Rattle.std.proofs.lemmas.Bool.Decides.{nat_tests}
use Rattle.fm_grammar.specs.Exposition.{Text, Label}
use Rattle.fm_grammar.specs.Names.{AllDifferent}
use Rattle.fm_grammar.specs.WellFormed.{AreLabels}
use Rattle.fm_grammar.specs.Spelling.{label_list_text, label_block_text}
use Rattle.fm_grammar.proofs.Labels.{braces_then, one_braces, one_block}
use Rattle.fm_reader.specs.inside.Fronts.{AreNamed, IsLabelsFront}
use Rattle.fm_reader.specs.inside.Parts.{IsBracesFront, IsBlockFront}

-- one list of labels is before a closing brace
pub one_list : (ks ls : List Label) (s t : Text) → AreNamed ks → AreNamed ls → label_list_text ks ++ (125 ∷ s) ≡ label_list_text ls ++ (125 ∷ t) → (ks ≡ ls) × (s ≡ t)
one_list ks ls s t p q e = one_braces ks ls s t p q (braces_then ks s ∙ ap (λ z. 123 ∷ z) e ∙ sym (braces_then ls t))

-- in braces

pub no_braces : (text : Text) → IsLabelsFront text None → IsBracesFront text None
no_braces text none = λ labels rest are e. none labels (32 ∷ rest) are.names e

braces_parts : (text : Text) (ks ls : List Label) (after rest : Text) → IsLabelsFront text (Some (ks, after)) → AreLabels ls → text ≡ label_list_text ls ++ (125 ∷ 32 ∷ rest) → (ks ≡ ls) × (after ≡ 32 ∷ rest)
braces_parts text ks ls after rest found are e = one_list ks ls after (32 ∷ rest) found.0 are.names (sym found.1 ∙ e)

pub braces_twice : (text : Text) (ks : List Label) (after : Text) → IsLabelsFront text (Some (ks, after)) → (AllDifferent (map (λ label. label.name) ks) → ⊥) → IsBracesFront text None
braces_twice text ks after found bad = λ ls rest are e.
    bad (subst (λ l. AllDifferent (map (λ label. label.name) l)) (sym (braces_parts text ks ls after rest found are e).0) are.different)

pub braces_no_space : (text : Text) (ks : List Label) (after : Text) → IsLabelsFront text (Some (ks, after)) → ((rest : Text) → after ≢ 32 ∷ rest) → IsBracesFront text None
braces_no_space text ks after found bad = λ ls rest are e. bad rest (braces_parts text ks ls after rest found are e).1

pub braces_found : (text : Text) (ks : List Label) (after rest : Text) → IsLabelsFront text (Some (ks, after)) → AllDifferent (map (λ label. label.name) ks) → after ≡ 32 ∷ rest → IsBracesFront text (Some (ks, rest))
braces_found text ks after rest found different space =
    (record { names = found.0; different = different }, found.1 ∙ ap (λ z. label_list_text ks ++ (125 ∷ z)) space)

-- one list of labels is in braces before a space
pub one_braces_front : (text : Text) (ks ls : List Label) (s t : Text) → IsBracesFront text (Some (ks, s)) → AreLabels ls → text ≡ label_list_text ls ++ (125 ∷ 32 ∷ t) → (ks ≡ ls) × (s ≡ t)
one_braces_front text ks ls s t found are e =
    let h = one_list ks ls (32 ∷ s) (32 ∷ t) found.0.names are.names (sym found.1 ∙ e) in
    let k = h.1 in
    (h.0, cc)

-- blocks

pub empty_block : (text rest : Text) (labels : List Label) → text ≡ 32 ∷ rest → labels ≡ [] → IsBlockFront text (Some (labels, rest))
empty_block text rest labels e none = subst (λ ls. IsBlockFront text (Some (ls, rest))) (sym none) (record { names = tt; different = tt }, e)

pub block_first : (label : Label) (labels : List Label) (rest : Text) → label_block_text (label ∷ labels) ++ (32 ∷ rest) ≡ 123 ∷ (label_list_text (label ∷ labels) ++ (125 ∷ 32 ∷ rest))
block_first label labels rest = braces_then (label ∷ labels) (32 ∷ rest)

pub no_block : (text : Text) → ((rest : Text) → text ≢ 32 ∷ rest) → ((rest : Text) → text ≢ 123 ∷ rest) → IsBlockFront text None
no_block text space brace [] rest are e = space rest e
no_block text space brace (l ∷ ls) rest are e = brace _ (e ∙ block_first l ls rest)

pub block_no_braces : (text inner : Text) → text ≡ 123 ∷ inner → IsBracesFront inner None → IsBlockFront text None
block_no_braces text inner brace none [] rest are e = let k = sym brace ∙ e in let h : ◌≡◌ {A = ℕ} 123 32 = cc in omega arith
block_no_braces text inner brace none (l ∷ ls) rest are e = let k = sym brace ∙ e ∙ block_first l ls rest in let h : inner ≡ label_list_text (l ∷ ls) ++ (125 ∷ 32 ∷ rest) = cc in none (l ∷ ls) rest are h

-- an empty list has no braces
pub block_empty : (text inner : Text) (ks : List Label) (s : Text) → text ≡ 123 ∷ inner → IsBracesFront inner (Some (ks, s)) → ks ≡ [] → IsBlockFront text None
block_empty text inner ks s brace found none [] rest are e = let k = sym brace ∙ e in let h : ◌≡◌ {A = ℕ} 123 32 = cc in omega arith
block_empty text inner ks s brace found none (l ∷ ls) rest are e =
    let k = sym brace ∙ e ∙ block_first l ls rest in
    let h : inner ≡ label_list_text (l ∷ ls) ++ (125 ∷ 32 ∷ rest) = cc in
    let same = (one_braces_front inner ks (l ∷ ls) s rest found are h).0 in
    let bad = sym none ∙ same in cc

pub block_found : (text inner : Text) (ks : List Label) (s : Text) → text ≡ 123 ∷ inner → IsBracesFront inner (Some (ks, s)) → (ks ≡ [] → ⊥) → IsBlockFront text (Some (ks, s))
block_found text inner [] s brace found some = absurd (some refl)
block_found text inner (k ∷ ks) s brace found some = (found.0, brace ∙ ap (λ z. 123 ∷ z) found.1 ∙ sym (block_first k ks s))

-- one block is before a space
pub one_block_front : (text : Text) (ks ls : List Label) (s t : Text) → IsBlockFront text (Some (ks, s)) → AreLabels ls → text ≡ label_block_text ls ++ (32 ∷ t) → (ks ≡ ls) × (s ≡ t)
one_block_front text ks ls s t found are e = one_block ks ls s t found.0.names are.names (sym found.1 ∙ e)

-- what the test of an empty list says
pub no_items : {A : Type 0} (xs : List A) → length xs ≡ 0 → xs ≡ []
no_items [] none = refl
no_items (x ∷ xs) none = absurd (omega arith)
