-- How contracts see labels that are pairs of texts.
use Rattle.std.specs.Prelude.{List, [], ◌∷◌, map}
use Rattle.std.specs.String.{string_bytes}
use Rattle.std.specs.Borrow.{Bor}
use Rattle.std.specs.declared.string.String.{String}
use Rattle.std.specs.declared.alloc.Global.{Global}
use Rattle.fm_grammar.specs.Exposition.{Text, Label}

-- a label kept as two strings
abbrev pub label_of : String Global × String Global → Label
label_of pair = record { name = string_bytes pair.0; value = string_bytes pair.1 }

abbrev pub labels_of : List (String Global × String Global) → List Label
labels_of pairs = map label_of pairs

-- a label borrowed as two texts
abbrev pub shown_label : Bor Text × Bor Text → Label
shown_label pair = record { name = pair.0.now; value = pair.1.now }

-- labels with these names and these values, in order
abbrev pub labels_with : List Text → List Text → List Label
labels_with (name ∷ names) (value ∷ values) = record { name = name; value = value } ∷ labels_with names values
labels_with _ _ = []
