use Rattle.std.proofs.Common.{◌≡◌, drop}
use Rattle.fm_labels.specs.LabelValues.{values_in}
use Rattle.fm_labels.proofs.label_values.LabelValues.get.Given as goal

abbrev pub invariant-loop : goal.invariant-loop
invariant-loop l = values_in l.rest ≡ drop l.counter l.self
