-- Labels that a family keeps as they are written.
use Rattle.std.specs.Prelude.{List, Option, IfSome}
use Rattle.std.specs.List.{AllZip}
use Rattle.fm_encoder.specs.Exposition.{Label}
use Rattle.fm_labels.specs.Labels.{EmittedLabel}
use Rattle.fm_labels.specs.WrittenLabels.{AreWritten}

-- of each label set, the labels that are kept, if any
abbrev pub HaveLabels : {L : Type 0} → (L → List EmittedLabel) → List L → List (Option (List Label)) → Type 0
HaveLabels {L} labels = AllZip (λ (key : L) (kept : Option (List Label)). IfSome kept (AreWritten (labels key)))
