-- The lines of a whole document, as loops write them.
use Rattle.std.specs.Prelude.{◌++◌, codes}
use Rattle.std.specs.List.{flat_map}
use Rattle.fm_grammar.specs.Exposition.{Text, Family, Exposition}
use Rattle.fm_exposition.specs.Rows.{sample_rows, head_rows}

abbrev pub family_rows : Family → Text
family_rows family = head_rows family ++ sample_rows family.name family.samples

abbrev pub families_rows : Exposition → Text
families_rows families = flat_map family_rows families

abbrev pub document_rows : Exposition → Text
document_rows families = families_rows families ++ codes "# EOF\n"
