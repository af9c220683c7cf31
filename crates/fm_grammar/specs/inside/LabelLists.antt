-- Labels in one text: where they are, and what contracts see of them.
use Rattle.std.specs.Prelude.{◌≤◌, List, map, slice_range}
use Rattle.std.specs.List.{AllByRecursion}
use Rattle.std.specs.Str.{IsUtf8, IsCharBoundary}
use Rattle.fm_grammar.specs.Exposition.{Text, Label}
use Rattle.fm_grammar.specs.declared.label_list.LabelBounds.{LabelBounds}

-- the label that is here in the text
abbrev pub label_in : Text → LabelBounds → Label
label_in text bounds = record { name = slice_range text bounds.start bounds.name_end; value = slice_range text bounds.name_end bounds.end }

abbrev pub labels_in : Text → List LabelBounds → List Label
labels_in text bounds = map (label_in text) bounds

-- the name and the value are within the text, and each is text itself
pub record IsWithin (text : Text) (bounds : LabelBounds) : Type 0 where
  pub name_order : bounds.start ≤ bounds.name_end
  pub value_order : bounds.name_end ≤ bounds.end
  pub start : IsCharBoundary text bounds.start
  pub name_end : IsCharBoundary text bounds.name_end
  pub end : IsCharBoundary text bounds.end

-- the values of labels are valid UTF-8
abbrev pub AreUtf8Labels : List Label → Type 0
AreUtf8Labels labels = AllByRecursion (λ label. IsUtf8 label.value) labels
