-- Labels in a text that grows.
use Rattle.std.proofs.Common.{◌≡◌, ℕ, List, [], ◌∷◌, ◌++◌, ◌≤◌, ◌-◌, ap, ◌∙◌, arith, length, length-append, length-drop, take, drop, refl, inl, inr}
use Rattle.std.proofs.Math.Seq.{take-length, drop-append_seam}
use Rattle.std.proofs.lemmas.Bool.{cases_lt}
use Rattle.std.proofs.lemmas.List.{drop-append-le, take-append-le, map-append, get_or_append_left}
use Rattle.std.proofs.lemmas.Str.{IsCharBoundary-end, IsCharBoundary-at_seam, IsUtf8-between}
use Rattle.std.specs.Prelude.{slice_range, slice_index}
use Rattle.std.specs.List.{AllByRecursion}
use Rattle.std.specs.Str.{IsUtf8, IsCharBoundary}
use Rattle.fm_grammar.specs.Exposition.{Text}
use Rattle.fm_grammar.proofs.Runs.{all_append}
use Rattle.fm_grammar.specs.declared.label_list.LabelBounds.{LabelBounds}
use Rattle.fm_grammar.specs.inside.LabelLists.{label_in, labels_in, IsWithin, AreUtf8Labels}

range_grown : (text more : Text) (i j : ℕ) → i ≤ j → j ≤ length text → slice_range (text ++ more) i j ≡ slice_range text i j
range_grown text more i j order within =
    ap (take (j - i)) (drop-append-le i text more (omega arith)) ∙ take-append-le (j - i) (drop i text) more (omega (arith, length-drop i text))

range_last : (front back : Text) → slice_range (front ++ back) (length front) (length (front ++ back)) ≡ back
range_last front back =
    let rest : length (front ++ back) - length front ≡ length back = omega (arith, length-append front back) in
    ap (take (length (front ++ back) - length front)) (drop-append_seam front back) ∙ ap (λ (n : ℕ). take n back) rest ∙ take-length back

boundary_grown : (text more : Text) (i : ℕ) → IsUtf8 more → IsCharBoundary text i → IsCharBoundary (text ++ more) i
boundary_grown text more i utf8 is =
    elim (cases_lt i (length text)) [
      | inl low ↦
          (let same : slice_index (text ++ more) i ≡ slice_index text i = get_or_append_left text more 0 i low in
          (omega (arith, length-append text more), λ _ high. rw same (is.1 low (rw same at high))))
      | inr past ↦
          (let here : i ≡ length text = omega (arith, is.0) in
          rw here (IsCharBoundary-at_seam (text ++ more) text more refl utf8))
    ]

IsWithin-grown : (text more : Text) (bounds : LabelBounds) → IsUtf8 more → IsWithin text bounds → IsWithin (text ++ more) bounds
IsWithin-grown text more bounds utf8 is = record {
  name_order = is.name_order;
  value_order = is.value_order;
  start = boundary_grown text more bounds.start utf8 is.start;
  name_end = boundary_grown text more bounds.name_end utf8 is.name_end;
  end = boundary_grown text more bounds.end utf8 is.end;
}

label_grown : (text more : Text) (bounds : LabelBounds) → IsWithin text bounds → label_in (text ++ more) bounds ≡ label_in text bounds
label_grown text more bounds is =
    let name = range_grown text more bounds.start bounds.name_end is.name_order is.name_end.0 in
    let value = range_grown text more bounds.name_end bounds.end is.value_order is.end.0 in
    λ i. record { name = name i; value = value i }

pub all_grown : (text more : Text) (list : List LabelBounds) → IsUtf8 more → AllByRecursion (IsWithin text) list → AllByRecursion (IsWithin (text ++ more)) list
all_grown text more [] utf8 all = tt
all_grown text more (bounds ∷ list) utf8 all = (IsWithin-grown text more bounds utf8 all.0, all_grown text more list utf8 all.1)

pub labels_grown : (text more : Text) (list : List LabelBounds) → AllByRecursion (IsWithin text) list → labels_in (text ++ more) list ≡ labels_in text list
labels_grown text more [] all = refl
labels_grown text more (bounds ∷ list) all = λ i. label_grown text more bounds all.0 i ∷ labels_grown text more list all.1 i

-- a label at the end of the text
last_within : (text name value : Text) → IsUtf8 name → IsUtf8 value → IsWithin ((text ++ name) ++ value) (record { start = length text; name_end = length (text ++ name); end = length ((text ++ name) ++ value) })
last_within text name value name_utf8 value_utf8 = record {
  name_order = omega (arith, length-append text name);
  value_order = omega (arith, length-append (text ++ name) value);
  start = boundary_grown (text ++ name) value (length text) value_utf8 (boundary_grown text name (length text) name_utf8 (IsCharBoundary-end text));
  name_end = boundary_grown (text ++ name) value (length (text ++ name)) value_utf8 (IsCharBoundary-end (text ++ name));
  end = IsCharBoundary-end ((text ++ name) ++ value);
}

last_label : (text name value : Text) → label_in ((text ++ name) ++ value) (record { start = length text; name_end = length (text ++ name); end = length ((text ++ name) ++ value) }) ≡ record { name = name; value = value }
last_label text name value =
    let first = range_grown (text ++ name) value (length text) (length (text ++ name)) (omega (arith, length-append text name)) (omega arith) ∙ range_last text name in
    let second = range_last (text ++ name) value in
    λ i. record { name = first i; value = second i }

pub all_pushed : (text name value : Text) (list : List LabelBounds) → IsUtf8 name → IsUtf8 value → AllByRecursion (IsWithin text) list
    → AllByRecursion (IsWithin ((text ++ name) ++ value)) (list ++ record { start = length text; name_end = length (text ++ name); end = length ((text ++ name) ++ value) } ∷ [])
all_pushed text name value list name_utf8 value_utf8 all =
    all_append (IsWithin ((text ++ name) ++ value)) list _ (all_grown (text ++ name) value list value_utf8 (all_grown text name list name_utf8 all)) (last_within text name value name_utf8 value_utf8, tt)

pub labels_pushed : (text name value : Text) (list : List LabelBounds) → IsUtf8 name → AllByRecursion (IsWithin text) list
    → labels_in ((text ++ name) ++ value) (list ++ record { start = length text; name_end = length (text ++ name); end = length ((text ++ name) ++ value) } ∷ []) ≡ labels_in text list ++ record { name = name; value = value } ∷ []
labels_pushed text name value list name_utf8 all =
    let before = labels_grown (text ++ name) value list (all_grown text name list name_utf8 all) ∙ labels_grown text name list all in
    map-append (label_in ((text ++ name) ++ value)) list _ ∙ (λ i. before i ++ last_label text name value i ∷ [])

-- the part between two places where a character begins is text
value_utf8 : (text : Text) (bounds : LabelBounds) → IsUtf8 text → IsWithin text bounds → IsUtf8 (slice_range text bounds.name_end bounds.end)
value_utf8 text bounds utf8 is = IsUtf8-between text bounds.name_end bounds.end utf8 is.value_order is.name_end is.end

pub labels_utf8 : (text : Text) (list : List LabelBounds) → IsUtf8 text → AllByRecursion (IsWithin text) list → AreUtf8Labels (labels_in text list)
labels_utf8 text [] utf8 all = tt
labels_utf8 text (bounds ∷ list) utf8 all = (value_utf8 text bounds utf8 all.0, labels_utf8 text list utf8 all.1)
