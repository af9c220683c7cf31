-- What reading a part at the start of a text finds: the part and the text after it, or that the text does not begin
-- with such a part.
use Rattle.std.specs.Prelude.{◌≡◌, ◌≢◌, ◌⊎◌, List, [], ◌∷◌, ◌++◌, ⊤, Option, Some, None, String, string_bytes}
use Rattle.std.specs.Borrow.{Bor}
use Rattle.std.specs.List.{AllByRecursion}
use Rattle.fm_grammar.specs.Exposition.{Text, Label}
use Rattle.fm_grammar.specs.Names.{IsLabelName}
use Rattle.fm_grammar.specs.Spelling.{escaped, label_text, label_list_text}

-- what may come after an escaped text: a line feed, a quote, or nothing
abbrev pub EndsEscaped : Text → Type 0
EndsEscaped [] = ⊤
EndsEscaped (byte ∷ text) = (byte ≡ 10) ⊎ (byte ≡ 34)

abbrev pub IsEscapedFront : Text → Option (Text × Text) → Type 0
IsEscapedFront text None = (value rest : Text) → EndsEscaped rest → text ≢ escaped value ++ rest
IsEscapedFront text (Some (value, rest)) = EndsEscaped rest × (text ≡ escaped value ++ rest)

abbrev pub seen : {Z : Type 0} → Option (String Z × Bor Text) → Option (Text × Text)
seen None = None
seen (Some (value, rest)) = Some (string_bytes value, rest.now)

-- a label with a valid name
abbrev pub IsLabelFront : Text → Option (Label × Text) → Type 0
IsLabelFront text None = (label : Label) (rest : Text) → IsLabelName label.name → text ≢ label_text label ++ rest
IsLabelFront text (Some (label, rest)) = IsLabelName label.name × (text ≡ label_text label ++ rest)

-- a text without an escape, and the text after the quote that ends it
abbrev pub IsPlainCut : Text → Option (Bor Text × Bor Text) → Type 0
IsPlainCut text None = ⊤
IsPlainCut text (Some (value, rest)) = text ≡ escaped value.now ++ (34 ∷ rest.now)

-- a label was read and added to the list
abbrev pub IsLabelRead : List Label → List Label → Text → Option (Bor Text) → Type 0
IsLabelRead old new text None = IsLabelFront text None
IsLabelRead old new text (Some rest) = (label : Label) × IsLabelFront text (Some (label, rest.now)) × (new ≡ old ++ (label ∷ []))

-- labels with valid names
abbrev pub AreNamed : List Label → Type 0
AreNamed labels = AllByRecursion (λ label. IsLabelName label.name) labels

abbrev pub IsLabelsFront : Text → Option (List Label × Text) → Type 0
IsLabelsFront text None = (labels : List Label) (rest : Text) → AreNamed labels → text ≢ label_list_text labels ++ (125 ∷ rest)
IsLabelsFront text (Some (labels, rest)) = AreNamed labels × (text ≡ label_list_text labels ++ (125 ∷ rest))

abbrev pub front_labels : Option (List Label × Bor Text) → Option (List Label × Text)
front_labels None = None
front_labels (Some (labels, rest)) = Some (labels, rest.now)
