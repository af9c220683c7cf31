use Rattle.std.proofs.Common.{◌≡◌, ℕ, Option, Some, None, length, vec_items}
use Rattle.std.specs.Prelude.{slice_get}
use Rattle.fm_encoder.specs.declared.exemplar.labeled.LabeledExemplar.{LabeledExemplar}
use Rattle.fm_encoder.specs.declared.exemplar.exemplar_labels.ExemplarLabels.{ExemplarLabels}
use Rattle.fm_histogram.proofs.exemplars.Seen.of_none.Given as goal

abbrev pub invariant-loop-index : goal.invariant-loop-index
invariant-loop-index l = (length (vec_items l.last) ≡ l.index) × ((i : ℕ) (slot : Option (LabeledExemplar ExemplarLabels)) → slice_get (vec_items l.last) i ≡ Some slot → slot ≡ None)
