use Rattle.std.proofs.Common.{ℤ, List, [], take, flat_map}
use Rattle.fm_histogram.specs.Histogram.{IsHistogram, takes}
use Rattle.fm_tally.proofs.pieces.merge_all.Given as goal

abbrev pub invariant-loop-index : goal.invariant-loop-index
invariant-loop-index g l = (bounds : List ℤ) → IsHistogram (takes g.S.Sign.NEGATIVE) bounds [] l.empty → IsHistogram (takes g.S.Sign.NEGATIVE) bounds (flat_map (λ p. p.items) (take l.index l.pieces)) l.all
