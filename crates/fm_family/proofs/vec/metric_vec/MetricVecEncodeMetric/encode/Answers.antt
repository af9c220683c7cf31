use Rattle.fm_encoder.proofs.MemberLemmas.{EmitsMembers-weaker, EmitsMembers-nothing}
use Rattle.fm_family.specs.VecNames.{vec_names}
use Rattle.fm_family.proofs.VecLemmas.{first_named, nothing_named, metric_fault}
use Rattle.fm_family.proofs.vec.metric_vec.MetricVecEncodeMetric.encode.Goals as goal

pub returns-then-count : goal.returns-then-count
returns-then-count g c = EmitsMembers-nothing _ (nothing_named (vec_names c.args.self.now) g.M.EncodePoint.points)

pub returns : goal.returns
returns g c =
    let pairs = c.deref-2.result.now.entries in let M = g.M.EncodePoint in let ensures = c.encode_members.ensures in
    rw (← c.deref-shared.ensures) (EmitsMembers-weaker _ _ _ (first_named _ M.points pairs ensures.different ensures.values) (metric_fault M.may_fault pairs) ensures.offered)
