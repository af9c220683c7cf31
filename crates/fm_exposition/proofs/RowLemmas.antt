-- The texts that are written are the texts of the grammar.
use Rattle.std.proofs.Common.{◌≡◌, List, [], ◌∷◌, ◌++◌, refl, ap, ◌∙◌, append_assoc, Option, Some, None, codes}
use Rattle.fm_grammar.specs.Exposition.{Text, Sample, Family, Exposition}
use Rattle.fm_grammar.specs.Spelling.{sample_line}
use Rattle.fm_grammar.specs.inside.DocumentText.{samples_text, unit_part, family_text, document_text}
use Rattle.fm_grammar.specs.WellFormed.{IsWellFormed}
use Rattle.fm_grammar.specs.Law.{IsDocumentOf}
use Rattle.fm_grammar.proofs.Law.{document_of}
use Rattle.fm_exposition.specs.Rows.{sample_rows, unit_row}
use Rattle.fm_exposition.specs.inside.DocumentRows.{family_rows, families_rows, document_rows}

samples_are : (name : Text) (samples : List Sample) → sample_rows name samples ≡ samples_text name samples
samples_are name [] = refl
samples_are name (sample ∷ samples) =
    append_assoc (sample_line name sample) (codes "\n") (sample_rows name samples) ∙ ap (λ t. sample_line name sample ++ (codes "\n" ++ t)) (samples_are name samples)

unit_is : (name : Text) (unit : Option Text) → unit_row name unit ≡ unit_part name unit
unit_is name None = refl
unit_is name (Some unit) = refl

pub family_is : (family : Family) → family_rows family ≡ family_text family
unfolding family_text
family_is family =
    rw (unit_is family.name family.unit, samples_are family.name family.samples) (simp append_assoc)

pub document_is : (e : Exposition) → document_rows e ≡ document_text e
document_is [] = refl
document_is (family ∷ families) =
    append_assoc (family_rows family) (families_rows families) (codes "# EOF\n") ∙ (λ i. family_is family i ++ document_is families i)

-- the text of a well-formed exposition is its document
pub document_written : (e : Exposition) → IsWellFormed e → IsDocumentOf (document_rows e) e
document_written e h = document_of (document_rows e) e h (document_is e)
