-- Labels by name and value, for label sets of a program's own.
use Rattle.std.specs.Prelude.{[], ◌∷◌}
use Rattle.fm_grammar.specs.Exposition.{Text}
use Rattle.fm_labels.specs.Labels.{EmittedLabel, NamePiece, ValuePiece}

-- the label of this name and this value
abbrev pub label : Text → Text → EmittedLabel
label name value = NamePiece name ∷ ValuePiece value ∷ []
