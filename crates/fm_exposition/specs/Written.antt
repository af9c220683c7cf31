-- What a call has written into a writer.
use Rattle.std.specs.Prelude.{◌≡◌, ◌++◌, Option}
use Rattle.std.specs.Io.KnownBytes.{Appends}
use Rattle.fm_grammar.specs.Exposition.{Text, Exposition}
use Rattle.fm_grammar.specs.Law.{IsDocumentOf}
use Rattle.fm_raw.specs.declared.encode_error.EncodeError.{EncodeError}
use Rattle.fm_raw.specs.declared.encode_error.EncodeError.TheVariants.{Memory, Write, WriteZero}

-- a beginning of the text was appended
abbrev pub AppendsBeginning : Option Text → Option Text → Text → Type 0
AppendsBeginning old new whole = (front rest : Text) × Appends old new front × (front ++ rest ≡ whole)

-- the errors of a writer
abbrev pub IsWritersFault : EncodeError → Type 0
IsWritersFault Write = Unit {0}
IsWritersFault WriteZero = Unit {0}
IsWritersFault _ = ⊥

-- the document was appended
abbrev pub AppendsDocument : Option Text → Option Text → Exposition → Type 0
AppendsDocument old new e = (text : Text) × IsDocumentOf text e × Appends old new text

-- a beginning of the document was appended
abbrev pub AppendsBeginningOfDocument : Option Text → Option Text → Exposition → Type 0
AppendsBeginningOfDocument old new e = (text : Text) × IsDocumentOf text e × AppendsBeginning old new text

-- the errors of a call that writes
abbrev pub IsWritingRefusal : EncodeError → Type 0
IsWritingRefusal Memory = Unit {0}
IsWritingRefusal Write = Unit {0}
IsWritingRefusal WriteZero = Unit {0}
IsWritingRefusal _ = ⊥
