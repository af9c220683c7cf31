use Rattle.std.proofs.Common.{◌≡◌, map, length, vec_items}
use Rattle.std.specs.List.{AllByRecursion}
use Rattle.fm_encoder.specs.Points.{ExemplarValid}
use Rattle.fm_histogram.specs.Exemplars.{SlotsFit}
use Rattle.fm_histogram.specs.inside.Slots.{emitted}
use Rattle.fm_histogram.proofs.exemplars.Seen.slots.Given as goal

abbrev pub invariant-loop-i : goal.invariant-loop-i
invariant-loop-i l =
    (length (vec_items l.slots) ≡ l.i) × AllByRecursion ExemplarValid (map emitted (vec_items l.slots)) × SlotsFit l.fn.self.counted.buckets (map emitted (vec_items l.slots))
