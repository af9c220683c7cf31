-- What a writer holds after a try to print a document.
use Rattle.std.specs.Prelude.{ℕ, List, Option, Result, Ok, Err, ◌⊎◌}
use Rattle.std.specs.Io.KnownBytes.{Keeps}
use Rattle.fastmetrics.specs.Exposition.{Exposition}
use Rattle.fastmetrics.specs.Encoded.{IsAdmittedText, Writes, BeginsToWrite}
use Rattle.expose_io.specs.declared.output.Fault.{Fault}

-- At `Ok` the document of an exposition that is admitted was written, else nothing or a beginning of such a document.
abbrev pub PrintsDocument : (Exposition → Type 0) → Option (List ℕ) → Option (List ℕ) → Result (Unit {0}) Fault → Type 0
PrintsDocument IsAdmitted old new (Ok _) = Writes (IsAdmittedText IsAdmitted) old new
PrintsDocument IsAdmitted old new (Err _) = Keeps old new ⊎ BeginsToWrite (IsAdmittedText IsAdmitted) old new
