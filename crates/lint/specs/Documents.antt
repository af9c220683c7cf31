-- What `lint` prints.
use Rattle.std.specs.Prelude.{◌≡◌, Option, []}
use Rattle.std.specs.List.{flat_map}
use Rattle.std.specs.Io.KnownBytes.{Appends}
use Rattle.fm_grammar.specs.Exposition.{Text, Exposition}
use Rattle.fm_grammar.specs.Document.{IsDocument}
use Rattle.fm_grammar.specs.Reading.{IsExposition}
use Rattle.fm_core.specs.Lint.{warnings_of_family}

-- the text is the document of an exposition, and was appended unchanged
abbrev pub PrintsAgain : Option Text → Option Text → Text → Type 0
PrintsAgain old new text = ((e : Exposition) × IsExposition e × IsDocument text e) × Appends old new text

-- the text is the document of an exposition of whose families nothing is advised
abbrev pub IsWithoutAdvice : Text → Type 0
IsWithoutAdvice text = (e : Exposition) × IsExposition e × IsDocument text e × (flat_map warnings_of_family e ≡ [])
