use Rattle.std.proofs.Common.{subst}
use Rattle.std.proofs.lemmas.Iterator.{YieldsList-from_slice}
use Rattle.std.proofs.lemmas.Iterator.Consumers.{YieldsList-from_copied}
use Rattle.fm_histogram.specs.Histogram.{IsBoundsOf, takes}
use Rattle.fm_tally.proofs.PieceLemmas.{drained}
use Rattle.fm_tally.proofs.snapshot.of_no_values.Goals as goal

pub returns-in-Ok-clause-bounds : goal.returns-in-Ok-clause-bounds
returns-in-Ok-clause-bounds g c =
    let made = c.in-Ok.ensures.bounds in
    let same = drained made.1 (YieldsList-from_copied (YieldsList-from_slice c.args.bounds.now cc)) in
    (made.2.0, subst (λ given. IsBoundsOf (takes g.S.Sign.NEGATIVE) given made.2.0) same made.2.1, made.2.2)
