use Rattle.std.proofs.Common.{ℤ, ◌≤◌, List, [], take}
use Rattle.fm_histogram.specs.Histogram.{IsHistogram, takes}
use Rattle.fm_tally.proofs.pieces.observe_piece.Given as goal

abbrev pub invariant-loop-value : goal.invariant-loop-value
invariant-loop-value g l =
    (l.seen.count ≤ l.value-index)
    × ((bounds : List ℤ) → IsHistogram (takes g.S.Sign.NEGATIVE) bounds [] l.empty → IsHistogram (takes g.S.Sign.NEGATIVE) bounds (take l.value-index l.piece) l.seen)
