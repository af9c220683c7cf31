-- The constant labels of a family.
use Rattle.std.specs.Prelude.{◌↔◌, List, Bool, IsTrue}
use Rattle.fm_grammar.specs.declared.MetricType.{MetricType}
use Rattle.fm_grammar.specs.Exposition.{Label}
use Rattle.fm_labels.specs.inside.FreeLabels.{HasReserved}

-- the labels, and whether one of them has the name that the family's type reserves
pub record FamilyConstants : Type 0 where
  pub labels : List Label
  pub has_reserved : Bool

-- the labels were tested for a family of the type
abbrev pub AreTested : MetricType → FamilyConstants → Type 0
AreTested type constants = IsTrue constants.has_reserved ↔ HasReserved type constants.labels
