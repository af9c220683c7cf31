-- What is written is valid UTF-8.
use Rattle.std.specs.Prelude.{Option}
use Rattle.std.specs.Io.KnownBytes.{Appends}
use Rattle.std.specs.Str.{IsUtf8}
use Rattle.fm_grammar.specs.Exposition.{Text, Exposition}
use Rattle.fm_grammar.specs.Law.{IsDocumentOf}

-- the document was appended, which is valid UTF-8
abbrev pub AppendsUtf8 : Option Text → Option Text → Exposition → Type 0
AppendsUtf8 old new e = (text : Text) × IsDocumentOf text e × IsUtf8 text × Appends old new text
