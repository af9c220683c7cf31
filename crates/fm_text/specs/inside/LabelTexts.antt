-- Labels in one text: where their parts are, and what contracts see of them.
use Rattle.std.specs.Prelude.{◌≡◌, ◌++◌, ◌≤◌, codes, None, Bool, true, false, List, [], ◌∷◌, length, map, Option, Some, IfSome}
use Rattle.std.specs.List.{between, flat_map, AllByRecursion}
use Rattle.std.specs.Str.{IsUtf8}
use Rattle.std.specs.Option.{option_map}
use Rattle.fm_grammar.specs.Exposition.{Text, Label}
use Rattle.fm_grammar.specs.Spelling.{escaped, label_text, label_list_text}
use Rattle.fm_text.specs.inside.Grown.{Grown}
use Rattle.fm_text.specs.declared.spans.Part.{Part}
use Rattle.fm_text.specs.declared.spans.LabelSpan.{LabelSpan}
use Rattle.fm_text.specs.declared.spans.LabelsAt.{LabelsAt}

-- the name or value in this part
abbrev pub part_in : Text → Part → Text
part_in text part = between part.start part.end text

-- the label at this span
abbrev pub label_in : Text → LabelSpan → Label
label_in text span = record { name = part_in text span.name; value = part_in text span.value }

abbrev pub labels_in : Text → List LabelSpan → List Label
labels_in text spans = map (label_in text) spans

abbrev pub names_in : Text → List LabelSpan → List Text
names_in text spans = map (λ label. label.name) (labels_in text spans)

-- a part of the text that is text itself
pub record IsPart (text : Text) (part : Part) : Type 0 where
  pub order : part.start ≤ part.end
  pub within : part.end ≤ length text
  pub utf8 : IsUtf8 (part_in text part)

pub record IsSpan (text : Text) (span : LabelSpan) : Type 0 where
  pub name : IsPart text span.name
  pub value : IsPart text span.value

-- all spans are within the text
abbrev pub AreSpans : LabelsAt → Type 0
AreSpans labels = AllByRecursion (IsSpan labels.text.now) labels.spans.now

-- all spans are within the text, those of the current label too
pub record AreParts (text : Text) (ps : List LabelSpan) (n v : Option Part) : Type 0 where
  pub spans : AllByRecursion (IsSpan text) ps
  pub name : IfSome n (IsPart text)
  pub value : IfSome v (IsPart text)

-- a label after a comma
abbrev pub further_label : Label → Text
further_label label = codes "," ++ label_text label

abbrev pub further_labels : List Label → Text
further_labels labels = flat_map further_label labels

-- the list of the labels before, with a comma after it
abbrev pub list_before : List Label → Text
list_before [] = []
list_before (label ∷ labels) = label_list_text (label ∷ labels) ++ codes ","

-- what comes before the name of a label: if another label precedes it, the quote that ends that one, and a comma
abbrev pub name_in_list : Bool → Text → Text
name_in_list true n = [] ++ (n ++ codes "=\"")
name_in_list false n = codes "\"," ++ (n ++ codes "=\"")

-- the name and the value of a label were appended at this span, first the name
pub record IsLabelAdded (is_first : Bool) (name value old new : Text) (span : LabelSpan) : Type 0 where
  pub named : Text
  pub name_grown : Grown old named (name_in_list is_first name)
  pub name_part : IsPart named span.name × (part_in named span.name ≡ name)
  pub value_grown : Grown named new value
  pub value_part : IsPart new span.value × (part_in new span.value ≡ value)

-- what comes after such a list for a further one to follow: if a label precedes it, the quote that ends that one, and a comma
abbrev pub further_list : Bool → Text → Text
further_list true list = list
further_list false list = codes "\"" ++ (codes "," ++ list)

-- the text is the list of the labels, except for the quote at its end, and the parts of the current label
abbrev pub IsListed : Option Text → Option Text → Text → List Label → Type 0
IsListed None None text [] = text ≡ []
IsListed None None text (label ∷ labels) = text ++ codes "\"" ≡ label_list_text (label ∷ labels)
IsListed None (Some v) text labels = ⊥
IsListed (Some n) None text labels = text ≡ list_before labels ++ (n ++ codes "=\"")
IsListed (Some n) (Some v) text labels = text ≡ list_before labels ++ (n ++ (codes "=\"" ++ escaped v))

abbrev pub AreListed : Bool → Option Text → Option Text → Text → List Label → Type 0
AreListed true n v text labels = IsListed n v text labels
AreListed false n v text labels = Unit {0}

-- all parts are within the text, which may be the list of the labels
pub record AreWithin (is_listed : Bool) (text : Text) (ps : List LabelSpan) (n v : Option Part) : Type 0 where
  pub parts : AreParts text ps n v
  pub listed : AreListed is_listed (option_map (part_in text) n) (option_map (part_in text) v) text (labels_in text ps)

-- what contracts see: the labels, and the name and the value of the current label
pub record LabelsState : Type 0 where
  pub labels : List Label
  pub name : Option Text
  pub value : Option Text

-- the label that has both a name and a value
abbrev pub whole_label : Option Text → Option Text → List Label
whole_label (Some n) (Some v) = record { name = n; value = v } ∷ []
whole_label _ _ = []

abbrev pub whole_span : Option Part → Option Part → List LabelSpan
whole_span (Some n) (Some v) = record { name = n; value = v } ∷ []
whole_span _ _ = []
