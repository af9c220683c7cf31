-- The text of a document, as a function.
use Rattle.std.specs.Prelude.{List, [], ◌∷◌, ◌++◌, codes, Option, Some, None}
use Rattle.fm_grammar.specs.Document.{line_before}
use Rattle.fm_grammar.specs.Exposition.{Text, Sample, Family, Exposition}
use Rattle.fm_grammar.specs.Spelling.{sample_line, type_line, help_line, unit_line}

abbrev pub samples_text : Text → List Sample → Text
samples_text name [] = []
samples_text name (sample ∷ samples) = line_before (sample_line name sample) (samples_text name samples)

abbrev pub unit_part : Text → Option Text → Text
unit_part name None = []
unit_part name (Some unit) = line_before (unit_line name unit) []

unfoldable pub family_text : Family → Text
family_text family = line_before (type_line family.name family.metric_type) (line_before (help_line family.name family.help) (unit_part family.name family.unit ++ samples_text family.name family.samples))

abbrev pub document_text : Exposition → Text
document_text [] = line_before (codes "# EOF") []
document_text (family ∷ families) = family_text family ++ document_text families
