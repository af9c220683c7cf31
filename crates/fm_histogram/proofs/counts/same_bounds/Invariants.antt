use Rattle.std.proofs.Common.{◌≡◌, take}
use Rattle.fm_histogram.specs.Histogram.{upper_bounds}
use Rattle.fm_histogram.proofs.counts.same_bounds.Given as goal

abbrev pub invariant-loop-i : goal.invariant-loop-i
invariant-loop-i l = upper_bounds (take l.i l.left) ≡ upper_bounds (take l.i l.right)
