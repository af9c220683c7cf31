use Rattle.fm_encoder.proofs.MemberLemmas.{EmitsMembers-weaker}
use Rattle.fm_family.proofs.MemberLemmas.{first_different}
use Rattle.fm_family.proofs.family.FamilyEncodeMetric.encode.Goals as goal

pub returns : goal.returns
returns g c =
    let pairs = c.deref-3.result.now.entries in
    EmitsMembers-weaker _ _ _ (first_different g.LS.PartialEq.eq g.met.LS.Eq.laws g.LS.EncodeLabelSet.labels g.M.EncodePoint.points pairs c.encode_members.ensures.different) (λ fault. (fault.1, fault.4)) c.encode_members.ensures.offered
