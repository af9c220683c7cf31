-- What a run of the program leaves on its first writer, and its status.
use Rattle.std.specs.Prelude.{◌≡◌, ℕ, List, Option, Result, Ok, Err, ◌⊎◌}
use Rattle.std.specs.Io.KnownBytes.{Keeps}
use Rattle.fastmetrics.specs.Exposition.{Exposition}
use Rattle.fastmetrics.specs.Encoded.{IsAdmittedText, Writes, BeginsToWrite}
use Rattle.expose_io.specs.declared.output.Fault.{Fault}
use Rattle.expose_io.specs.declared.output.Fault.TheVariants.{UnknownScene, Refused}

-- the fault says that this layer refused, with this number
abbrev pub IsRefusal : List ℕ → ℕ → Fault → Type 0
IsRefusal by refusal UnknownScene = ⊥
IsRefusal by refusal (Refused layer number) = (layer.now ≡ by) × (number ≡ refusal)

-- the status for a fault
abbrev pub status_of : Fault → ℕ
status_of UnknownScene = 2
status_of _ = 1

-- For a registry, the document of an exposition that it admits and 0, or nothing or a beginning of such a document and 1.
-- Nothing and the fault's status if there is no registry.
abbrev pub Finishes : {R : Type 0} → (R → Exposition → Type 0) → Option (List ℕ) → Option (List ℕ) → Result R Fault → ℕ → Type 0
Finishes IsAdmitted old new (Ok registry) status =
    ((status ≡ 0) × Writes (IsAdmittedText (IsAdmitted registry)) old new)
    ⊎ ((status ≡ 1) × (Keeps old new ⊎ BeginsToWrite (IsAdmittedText (IsAdmitted registry)) old new))
Finishes IsAdmitted old new (Err fault) status = (status ≡ status_of fault) × Keeps old new
