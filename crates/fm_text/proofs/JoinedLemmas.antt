-- Labels after other labels in one text.
use Rattle.std.proofs.Common.{◌≡◌, ℕ, zero, suc, List, [], ◌∷◌, ◌++◌, Bool, true, false, IsTrue, codes, ◌==◌, ◌<◌, ◌+◌, refl, sym, ap, subst, ◌∙◌, append_assoc, arith, length, take, drop, get_or, Option, Some, None, inl, inr}
use Rattle.std.specs.List.{Any, AllByRecursion}
use Rattle.std.proofs.lemmas.List.{take_more, length-map}
use Rattle.std.proofs.lemmas.List.Elements.{Contains-append_cases}
use Rattle.std.proofs.lemmas.Bool.Decides.{nat_tests}
use Rattle.fm_grammar.specs.Exposition.{Text, Label}
use Rattle.fm_grammar.specs.Spelling.{label_list_text}
use Rattle.fm_text.specs.declared.spans.Part.{Part}
use Rattle.fm_text.specs.declared.spans.LabelSpan.{LabelSpan}
use Rattle.fm_text.specs.inside.Grown.{Grown}
use Rattle.fm_text.specs.inside.LabelTexts.{label_in, labels_in, names_in, IsSpan, AreWithin, IsListed, AreListed, further_list}
use Rattle.fm_text.proofs.GrownLemmas.{list_after}
use Rattle.fm_text.proofs.LabelTextLemmas.{Contains-one, labels_grown, names_push}

-- one of the names is so
pub name_so : (P : Text → Type 0) (text : Text) (ps : List LabelSpan) (i : ℕ) (d : LabelSpan) → i < length ps → P (label_in text (get_or ps i d)).name → Any P (names_in text ps)
name_so P text [] i d within so = absurd (omega arith)
name_so P text (q ∷ ps) zero d within so = (0, (label_in text q).name, omega arith, refl, so)
name_so P text (q ∷ ps) (suc i) d within so =
    (let there = name_so P text ps i d (omega arith) so in (suc there.0, there.1, omega (arith, there.2), there.3, there.4))

-- one name more that is not so
pub name_not_so : (P : Text → Type 0) (text : Text) (ps : List LabelSpan) (i : ℕ) (d : LabelSpan) → i < length ps → ¬ (P (label_in text (get_or ps i d)).name) → ¬ (Any P (names_in text (take i ps))) → ¬ (Any P (names_in text (take (i + 1) ps)))
name_not_so P text ps i d within other before there =
    let split = subst (Any P) (ap (names_in text) (take_more ps i d within) ∙ names_push text (take i ps) (get_or ps i d)) there in
    elim (Contains-append_cases _ _ split.1 (split.0, split.2, split.3)) [
      | inl h ↦ before (h.0, split.1, h.1, h.2, split.4)
      | inr h ↦ other (subst P (sym (Contains-one split.1 _ h)) split.4)
    ]

-- the list of labels, and after it the list of further ones, is the list of all
joined : (old list : Text) (front back : List Label) (is_first : Bool) → is_first ≡ (length front == 0) → 0 < length back → IsListed None None old front → IsListed None None list back → IsListed None None (old ++ further_list is_first list) (front ++ back)
joined old list front [] is_first e more before after = absurd (omega arith)
joined old list [] (m ∷ ms) true e more before after = subst (λ (t : Text). (t ++ list) ++ codes "\"" ≡ label_list_text (m ∷ ms)) (sym before) after
joined old list [] (m ∷ ms) false e more before after = absurd cc
joined old list (l ∷ ls) (m ∷ ms) true e more before after = absurd (grind (arith, nat_tests, e))
joined old list (l ∷ ls) (m ∷ ms) false e more before after =
    let pieces : (old ++ (codes "\"" ++ (codes "," ++ list))) ++ codes "\"" ≡ ((old ++ codes "\"") ++ codes ",") ++ (list ++ codes "\"") = simp append_assoc in
    pieces ∙ ap (λ (t : Text). (t ++ codes ",") ++ (list ++ codes "\"")) before
    ∙ ap (λ (t : Text). (label_list_text (l ∷ ls) ++ codes ",") ++ t) after
    ∙ list_after (l ∷ ls) (m ∷ ms) more

-- the labels, and the further ones after them
pub labels_joined : (old new list more : Text) (by : ℕ) (ps qs now : List LabelSpan) → Grown old new more → AllByRecursion (IsSpan old) ps → drop by new ≡ list → labels_in new now ≡ labels_in new ps ++ labels_in (drop by new) qs → labels_in new now ≡ labels_in old ps ++ labels_in list qs
labels_joined old new list more by ps qs now grown are after pushed =
    pushed ∙ ap (λ (t : Text). labels_in new ps ++ labels_in t qs) after ∙ ap (λ (ls : List Label). ls ++ labels_in list qs) (labels_grown old new more ps grown are)

listed_joined : (listed further next is_first : Bool) (old new list : Text) (ps qs now : List LabelSpan) (n v m w : Option Part) → (IsTrue next → ((listed ≡ true) × (n ≡ None) × (v ≡ None)) × ((further ≡ true) × (m ≡ None) × (w ≡ None))) → is_first ≡ (length ps == 0) → 0 < length qs
    → Grown old new (further_list is_first list) → AreWithin listed old ps n v → AreWithin further list qs m w → labels_in new now ≡ labels_in old ps ++ labels_in list qs → AreListed next None None new (labels_in new now)
listed_joined listed further false is_first old new list ps qs now n v m w may e more grown held others labels = tt
listed_joined true true true is_first old new list ps qs now None None None None may e more grown held others labels =
    let first : is_first ≡ (length (labels_in old ps) == 0) = e ∙ ap (λ (k : ℕ). k == 0) (sym (length-map ps (label_in old))) in
    let some : 0 < length (labels_in list qs) = rw length-map more in
    let all = joined old list (labels_in old ps) (labels_in list qs) is_first first some held.listed others.listed in
    subst (λ (ls : List Label). IsListed None None new ls) (sym labels) (subst (λ (t : Text). IsListed None None t (labels_in old ps ++ labels_in list qs)) (sym grown.bytes) all)
listed_joined true true true is_first old new list ps qs now (Some n) v m w may e more grown held others labels = (let never : Some n ≡ None = (may refl).0.1 in absurd cc)
listed_joined true true true is_first old new list ps qs now None (Some v) m w may e more grown held others labels = (let never : Some v ≡ None = (may refl).0.2 in absurd cc)
listed_joined true true true is_first old new list ps qs now None None (Some m) w may e more grown held others labels = (let never : Some m ≡ None = (may refl).1.1 in absurd cc)
listed_joined true true true is_first old new list ps qs now None None None (Some w) may e more grown held others labels = (let never : Some w ≡ None = (may refl).1.2 in absurd cc)
listed_joined true false true is_first old new list ps qs now n v m w may e more grown held others labels = (let never : false ≡ true = (may refl).1.0 in absurd cc)
listed_joined false further true is_first old new list ps qs now n v m w may e more grown held others labels = (let never : false ≡ true = (may refl).0.0 in absurd cc)

pub held_joined : (listed further next is_first : Bool) (old new list : Text) (ps qs now : List LabelSpan) (n v m w : Option Part) → (IsTrue next → ((listed ≡ true) × (n ≡ None) × (v ≡ None)) × ((further ≡ true) × (m ≡ None) × (w ≡ None))) → is_first ≡ (length ps == 0) → 0 < length qs
    → Grown old new (further_list is_first list) → AreWithin listed old ps n v → AreWithin further list qs m w → AllByRecursion (IsSpan new) now → labels_in new now ≡ labels_in old ps ++ labels_in list qs → AreWithin next new now None None
held_joined listed further next is_first old new list ps qs now n v m w may e more grown held others spans labels = record {
  parts = record { spans = spans; name = tt; value = tt };
  listed = listed_joined listed further next is_first old new list ps qs now n v m w may e more grown held others labels;
}
