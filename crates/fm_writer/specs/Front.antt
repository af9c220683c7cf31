-- What the lines of samples begin with that have labels of their own.
use Rattle.std.specs.Prelude.{List, ◌++◌, codes}
use Rattle.fm_grammar.specs.declared.SampleKind.{SampleKind}
use Rattle.fm_grammar.specs.Exposition.{Text, Label}
use Rattle.fm_grammar.specs.Kinds.{suffix_of}
use Rattle.fm_text.specs.inside.LabelTexts.{list_before}

-- The front of the lines of a family's samples of this kind: the family's name, the suffix of the kind, an open brace, and the labels
-- that the samples have in common, with a comma after them.
unfoldable pub line_front : Text → SampleKind → List Label → Text
line_front name kind common = name ++ (suffix_of kind ++ (codes "{" ++ list_before common))
