-- A label that is added whole to labels in a text.
use Rattle.std.proofs.Common.{◌≡◌, ℕ, ◌+◌, ◌-◌, List, [], ◌∷◌, ◌++◌, Bool, IsTrue, true, false, refl, sym, ap, subst, ◌∙◌, length, ◌==◌, Option, Some, None, arith, append-nil, append_assoc}
use Rattle.std.proofs.lemmas.List.{length-append}
use Rattle.std.specs.List.{between, AllByRecursion}
use Rattle.std.specs.Str.{IsUtf8}
use Rattle.fm_grammar.specs.Exposition.{Text, Label}
use Rattle.fm_grammar.specs.Spelling.{escaped}
use Rattle.fm_text.specs.inside.Grown.{Grown}
use Rattle.fm_text.specs.declared.spans.Part.{Part}
use Rattle.fm_text.specs.declared.spans.LabelSpan.{LabelSpan}
use Rattle.fm_text.specs.inside.LabelTexts.{part_in, labels_in, IsPart, IsSpan, IsLabelAdded, AreWithin, name_in_list}
use Rattle.fm_text.proofs.LabelTextLemmas.{between_pieces, part_of_listed_name, part_grown, labels_grown, spans_grown, labels_whole, held_named, held_valued, held_ended}

-- spans within a text that has grown, without a current label
pub held_grown : (old new more : Text) (ps : List LabelSpan) → Grown old new more → AllByRecursion (IsSpan old) ps → AreWithin false new ps None None
held_grown old new more ps grown are = record {
  parts = record { spans = spans_grown old new more ps grown are; name = tt; value = tt };
  listed = tt;
}

pub held_grown_twice : (old mid new more further : Text) (ps : List LabelSpan) → Grown old mid more → Grown mid new further → AllByRecursion (IsSpan old) ps → AreWithin false new ps None None
held_grown_twice old mid new more further ps grown again are = held_grown mid new further ps again (spans_grown old mid more ps grown are)

pub labels_grown_twice : (old mid new more further : Text) (ps : List LabelSpan) → Grown old mid more → Grown mid new further → AllByRecursion (IsSpan old) ps → labels_in new ps ≡ labels_in old ps
labels_grown_twice old mid new more further ps grown again are =
    labels_grown mid new further ps again (spans_grown old mid more ps grown are) ∙ labels_grown old mid more ps grown are

-- where the name and the value of a label are that were appended at once
pub label_added : (old new : Text) (is_first : Bool) (name value : Text) (end start name_end name_start : ℕ) → Grown old new (name_in_list is_first name ++ value) → IsUtf8 name → IsUtf8 value
    → end ≡ length new → start ≡ end - length value → name_end ≡ start - 2 → name_start ≡ name_end - length name
    → IsLabelAdded is_first name value old new (record { name = record { start = name_start; end = name_end }; value = record { start = start; end = end } })
label_added old new is_first name value end start name_end name_start grown utf8 value_utf8 ends starts name_ends name_starts =
    let named = old ++ name_in_list is_first name in
    let again : Grown named new value = record { bytes = grown.bytes ∙ sym (append_assoc old (name_in_list is_first name) value) } in
    let all : length new ≡ length named + length value = ap length again.bytes ∙ length-append named value in
    let from : start ≡ length named + 0 = omega arith in
    let to : end ≡ length named + 0 + length value = omega arith in
    let whole : new ≡ named ++ ([] ++ (value ++ [])) = again.bytes ∙ ap (λ (t : Text). named ++ t) (sym (append-nil value)) in
    let is : between start end new ≡ value = ap (λ (n : ℕ). between n end new) from ∙ ap (λ (n : ℕ). between (length named + 0) n new) to ∙ ap (between (length named + 0) (length named + 0 + length value)) whole ∙ between_pieces named [] value [] in
    record {
      named = named;
      name_grown = record { bytes = refl };
      name_part = part_of_listed_name old named is_first name name_start name_end (record { bytes = refl }) utf8 (omega arith) name_starts;
      value_grown = again;
      value_part = (record { order = omega arith; within = omega arith; utf8 = subst IsUtf8 (sym is) value_utf8 }, is);
    }

-- a name and a value more, and the label ended
pub held_added : (listed next : Bool) (old mid new name value : Text) (ps : List LabelSpan) (n v : Option Part) (p q : Part) (is_first : Bool) → (IsTrue next → (listed ≡ true) × (n ≡ None) × (v ≡ None) × (escaped value ≡ value)) → is_first ≡ (length ps == 0)
    → Grown old mid (name_in_list is_first name) → IsPart mid p → part_in mid p ≡ name → Grown mid new value → IsPart new q → part_in new q ≡ value → AreWithin listed old ps n v
    → AreWithin next new (ps ++ record { name = p; value = q } ∷ []) None None
held_added listed next old mid new name value ps n v p q is_first may first grown within is again within' is' held =
    let named = held_named listed next old mid name ps n v p is_first (λ t. ((may t).0, (may t).1, (may t).2)) first grown within is held in
    let valued = held_valued next next mid new value ps (Some p) v q (λ t. (t, refl, (may t).2, (may t).3)) again within' is' named in
    held_ended next next new ps (Some p) (Some q) (λ t. (t, refl)) valued

pub labels_added : (old mid new more name value : Text) (ps : List LabelSpan) (p q : Part) → Grown old mid more → IsPart mid p → part_in mid p ≡ name → Grown mid new value → part_in new q ≡ value → AllByRecursion (IsSpan old) ps
    → labels_in new (ps ++ record { name = p; value = q } ∷ []) ≡ labels_in old ps ++ record { name = name; value = value } ∷ []
labels_added old mid new more name value ps p q grown within is again is' are =
    let same = labels_grown_twice old mid new more value ps grown again are in
    let named = part_grown mid new value p again within ∙ is in
    labels_whole new ps (Some p) (Some q) ∙ (λ i. same i ++ record { name = named i; value = is' i } ∷ [])
