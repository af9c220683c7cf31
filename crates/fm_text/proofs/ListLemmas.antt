-- The text of a list of labels, and of one that follows another.
use Rattle.std.proofs.Common.{◌≡◌, ◌<◌, List, [], ◌∷◌, ◌++◌, length, refl, sym, ap, ◌∙◌, append_assoc, arith, codes}
use Rattle.std.proofs.lemmas.List.{append-nil, length-map}
use Rattle.std.proofs.lemmas.Grind.{flat_map-append}
use Rattle.fm_grammar.specs.Exposition.{Label}
use Rattle.fm_grammar.specs.Spelling.{label_text, label_list_text}
use Rattle.fm_text.specs.inside.LabelTexts.{further_label, further_labels}

-- a list of labels is its first label, and the others after a comma each
pub label_list_is : (first : Label) (others : List Label) → label_list_text (first ∷ others) ≡ label_text first ++ further_labels others
label_list_is first [] = sym (append-nil (label_text first))
label_list_is first (next ∷ others) = ap (λ t. label_text first ++ (codes "," ++ t)) (label_list_is next others) ∙ ap (λ t. label_text first ++ t) (sym (append_assoc (codes ",") (label_text next) (further_labels others)))

-- two lists, one after the other: if the first isn't empty, each label of the second comes after a comma
pub list_joined : (front back : List Label) → 0 < length front → label_list_text (front ++ back) ≡ label_list_text front ++ further_labels back
list_joined [] back h = absurd (omega arith)
list_joined (first ∷ others) back h =
    let list : label_list_text (first ∷ (others ++ back)) ≡ label_text first ++ (further_labels others ++ further_labels back) =
    label_list_is first (others ++ back) ∙ ap (λ t. label_text first ++ t) (flat_map-append further_label others back) in
    list ∙ sym (append_assoc (label_text first) (further_labels others) (further_labels back)) ∙ ap (λ t. t ++ further_labels back) (sym (label_list_is first others))

pub list_back : (front back : List Label) → length front ≡ 0 → label_list_text (front ++ back) ≡ label_list_text back
list_back [] back h = refl
list_back (first ∷ others) back h = absurd (omega arith)

pub ruleset joined = (list_joined, list_back, length-map)
