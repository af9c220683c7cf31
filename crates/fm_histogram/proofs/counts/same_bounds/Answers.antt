use Rattle.std.proofs.Common.{◌<◌, length, rules}
use Rattle.fm_histogram.proofs.MergeLemmas.{bound_at}
use Rattle.fm_histogram.proofs.counts.same_bounds.Goals as goal

pub returns-then-ne : goal.returns-then-ne
returns-then-ne c = (
  (λ h. absurd (search rules)),
  (λ same.
      let in' : c.loop-i.i < length c.args.right.now = search rules in
      let e = bound_at c.args.left.now c.args.right.now c.loop-i.i c.index-left-i.result c.index-right-i.result c.loop-i-test.true in' same in
      search rules),
)
