-- Labels that are kept as they are written, for a later family.
use Rattle.std.specs.Prelude.{◌≡◌, List, []}
use Rattle.fm_grammar.specs.declared.MetricType.{MetricType}
use Rattle.fm_grammar.specs.Exposition.{Label}
use Rattle.fm_labels.specs.Labels.{EmittedLabel, LabelsValid, all_written}

-- the kept labels are these, as they are written; they are valid in a family of any type that has no constant labels
pub record AreWritten (labels : List EmittedLabel) (kept : List Label) : Type 0 where
  pub written : kept ≡ all_written labels
  pub valid : (type : MetricType) → LabelsValid type [] labels
