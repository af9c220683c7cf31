-- A label at the front of a text.
use Rattle.std.proofs.Common.{◌≡◌, ◌≢◌, ℕ, ◌<◌, inr, ◌∷◌, ◌++◌, length, get_or, refl, sym, ap, subst, ◌∙◌, arith, Some}
use Rattle.std.specs.List.{AllByRecursion}
use Rattle.fm_grammar.specs.Exposition.{Text, Label}
use Rattle.fm_grammar.specs.Names.{IsLabelName}
use Rattle.fm_grammar.specs.inside.Words.{IsLabelByte}
use Rattle.fm_grammar.specs.Spelling.{escaped, label_text}
use Rattle.fm_grammar.proofs.Runs.{one_run, all_weaker}
use Rattle.fm_grammar.proofs.Labels.{label_then, name_bytes}
use Rattle.fm_reader.specs.inside.Fronts.{EndsEscaped}
use Rattle.fm_reader.specs.inside.Fronts.{IsLabelFront}
use Rattle.fm_reader.proofs.Fronts.{one_escaped_front}
use Rattle.fm_reader.proofs.LabelNames.{all_from}

-- bytes of a name, of which none is an equals sign
IsNameByte : ℕ → Type 0
IsNameByte byte = byte ≢ 61

no_equals : (name : Text) → IsLabelName name → AllByRecursion IsNameByte name
unfolding IsNameByte
no_equals name h = all_weaker IsLabelByte IsNameByte (λ b k e. grind arith) name (name_bytes name h)

-- if an equals sign cuts the text, it cuts a label after its name
pub label_cut : (text name after : Text) (label : Label) (rest : Text) → text ≡ name ++ (61 ∷ after) → AllByRecursion (λ b. b ≢ 61) name → IsLabelName label.name → text ≡ label_text label ++ rest
    → (name ≡ label.name) × (after ≡ 34 ∷ (escaped label.value ++ (34 ∷ rest)))
unfolding IsNameByte
label_cut text name after label rest cut lacks named e =
    let r = one_run IsNameByte name label.name (61 ∷ after) (61 ∷ 34 ∷ (escaped label.value ++ (34 ∷ rest))) lacks (no_equals label.name named) (λ d. d refl) (λ d. d refl) (sym cut ∙ e ∙ label_then label rest) in
    let k = r.1 in
    (r.0, cc)

-- where an equals sign cuts the text, no label is at the front if no quote comes after it,
pub no_quote : (text name after : Text) → (text ≡ name ++ (61 ∷ after)) × ((i : ℕ) → i < length name → get_or name i 0 ≢ 61) → ((quoted : Text) → after ≢ 34 ∷ quoted) → (label : Label) (rest : Text) → IsLabelName label.name → text ≡ label_text label ++ rest → ⊥
no_quote text name after cut none label rest named e = none _ (label_cut text name after label rest cut.0 (all_from (λ b. b ≢ 61) name cut.1) named e).1

-- what a label has after the quote
after_quote : (text name after quoted : Text) → (text ≡ name ++ (61 ∷ after)) × ((i : ℕ) → i < length name → get_or name i 0 ≢ 61) → after ≡ 34 ∷ quoted → (label : Label) (rest : Text) → IsLabelName label.name → text ≡ label_text label ++ rest → quoted ≡ escaped label.value ++ (34 ∷ rest)
after_quote text name after quoted cut q label rest named e =
    let h = (label_cut text name after label rest cut.0 (all_from (λ b. b ≢ 61) name cut.1) named e).1 in
    cc

-- if no escaped text comes after that,
pub no_value : (text name after quoted : Text) → (text ≡ name ++ (61 ∷ after)) × ((i : ℕ) → i < length name → get_or name i 0 ≢ 61) → after ≡ 34 ∷ quoted → ((value rest : Text) → EndsEscaped rest → quoted ≢ escaped value ++ rest)
    → (label : Label) (rest : Text) → IsLabelName label.name → text ≡ label_text label ++ rest → ⊥
no_value text name after quoted cut q none label rest named e = none label.value (34 ∷ rest) (inr refl) (after_quote text name after quoted cut q label rest named e)

-- or if no quote ends that
pub no_last_quote : (text name after quoted value closing : Text) → (text ≡ name ++ (61 ∷ after)) × ((i : ℕ) → i < length name → get_or name i 0 ≢ 61) → after ≡ 34 ∷ quoted → EndsEscaped closing × (quoted ≡ escaped value ++ closing) → ((rest : Text) → closing ≢ 34 ∷ rest)
    → (label : Label) (rest : Text) → IsLabelName label.name → text ≡ label_text label ++ rest → ⊥
no_last_quote text name after quoted value closing cut q found none label rest named e =
    none rest (one_escaped_front value label.value closing (34 ∷ rest) found.0 (inr refl) (sym found.1 ∙ after_quote text name after quoted cut q label rest named e)).1

-- and else one is
pub label_front : (text name after quoted value closing rest : Text) → text ≡ name ++ (61 ∷ after) → IsLabelName name → after ≡ 34 ∷ quoted → quoted ≡ escaped value ++ closing → closing ≡ 34 ∷ rest → IsLabelFront text (Some (record { name = name; value = value }, rest))
label_front text name after quoted value closing rest cut named q v last =
    (named, cut ∙ ap (λ z. name ++ (61 ∷ z)) (q ∙ ap (λ z. 34 ∷ z) (v ∙ ap (λ z. escaped value ++ z) last)) ∙ sym (label_then (record { name = name; value = value }) rest))

-- also with a copy of the name
pub label_front_named : (text name after quoted value closing rest copy : Text) → copy ≡ name → text ≡ name ++ (61 ∷ after) → IsLabelName name → after ≡ 34 ∷ quoted → quoted ≡ escaped value ++ closing → closing ≡ 34 ∷ rest → IsLabelFront text (Some (record { name = copy; value = value }, rest))
label_front_named text name after quoted value closing rest copy e cut named q v last =
    subst (λ n. IsLabelFront text (Some (record { name = n; value = value }, rest))) (sym e) (label_front text name after quoted value closing rest cut named q v last)
