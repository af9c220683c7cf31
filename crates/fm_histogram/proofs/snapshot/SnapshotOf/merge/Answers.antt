use Rattle.std.proofs.Common.{ap, ◌∙◌}
use Rattle.std.proofs.lemmas.Result.{on_ok_weaker}
use Rattle.fm_histogram.specs.Histogram.{takes, merged}
use Rattle.fm_histogram.proofs.MergeLemmas.{merges_taken}
use Rattle.fm_histogram.proofs.TakenLemmas.{merged_taken}
use Rattle.fm_histogram.proofs.snapshot.SnapshotOf.merge.Goals as goal

pub returns-clause-histogram : goal.returns-clause-histogram
returns-clause-histogram g c =
    on_ok_weaker c.merge.result (λ is bounds xs ys. merges_taken (takes g.S.Sign.NEGATIVE) bounds xs ys c.args.self.now c.args.other.now c.merge.new.self (is ∙ (ap (λ z. merged z c.other.inside.counts) c.self.view_is ∙ ap (λ z. merged c.args.self.now z) c.other.view_is))) c.merge.ensures.merged

pub invariant_of-self : goal.invariant_of-self
invariant_of-self g c = merged_taken (takes g.S.Sign.NEGATIVE) c.self.inside.counts c.other.inside.counts c.merge.new.self c.merge.result c.self.invariant c.other.invariant c.merge.ensures.same c.merge.ensures.merged c.merge.ensures.few c.merge.ensures.kept
