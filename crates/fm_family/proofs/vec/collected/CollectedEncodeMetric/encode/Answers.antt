use Rattle.fm_encoder.proofs.MemberLemmas.{EmitsMembers-weaker}
use Rattle.fm_family.proofs.VecLemmas.{first_named}
use Rattle.fm_family.proofs.vec.collected.CollectedEncodeMetric.encode.Goals as goal

pub returns : goal.returns
returns g c =
    let ensures = c.encode_members.ensures in
    EmitsMembers-weaker _ _ _ (first_named c.args.self.now.names g.M.EncodePoint.points c.collect.new.members.core.entries ensures.different ensures.values) (λ _. tt) ensures.offered
