use Rattle.std.proofs.Common.{subst}
use Rattle.fm_histogram.specs.Histogram.{IsBoundsOf, takes}
use Rattle.fm_histogram.proofs.snapshot.SnapshotOf.new.Goals as goal

pub returns-clause-bounds : goal.returns-clause-bounds
returns-clause-bounds g c =
    let rising = c.in_ok-rising.ensures in
    let taken = subst (λ b. IsBoundsOf (takes b) rising.0 c.in_ok-rising.rising.items) c.NEGATIVE.ensures rising.2 in
    (rising.0, rising.1, (c.in_ok-rising.rising.items, taken, c.in_ok-counts.ensures.bounds))
