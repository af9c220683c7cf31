use Rattle.fm_encoder.proofs.MemberLemmas.{TakesMembers-bare}
use Rattle.fm_encoder.proofs.metric.MetricEncoder.encode_info.Goals as goal

pub returns : goal.returns
returns g c = rw (← c.self.view_is) (TakesMembers-bare c.self.inside.constants.labels _ _ _ c.self.inside.points _ _ _ _ (λ never. never) c.begin_member.ensures c.in_ok-begin_member.was c.encode_info.ensures)
