use Rattle.std.proofs.Common.{◌<◌, ◌+◌, sym, length, arith}
use Rattle.std.proofs.lemmas.Result.{err_from_is_err_and}
use Rattle.fm_encoder.proofs.MemberLemmas.{EmitsMembers-weaker}
use Rattle.fm_family.specs.VecMembers.{named_labels, NeverFaults}
use Rattle.fm_family.proofs.MemberLemmas.{accepted, offers_member}
use Rattle.fm_family.proofs.vec.members.VecMembers.encode_members.Goals as goal

pub loop-index-preserved : goal.loop-index-preserved
loop-index-preserved g c =
    let M = g.M.EncodePoint in
    let one = rw c.in_ok-encode_member.was at c.encode_member.ensures.emitted in
    record {
      offered = offers_member (named_labels c.args.names.now) M.points NeverFaults M.may_fault c.args.self.now.entries c.loop-index.index c.in-Some.values.now c.in-Some.metric.now _ _ _ _ c.in-Some.ensures.shown c.loop-index.invariant.offered c.loop-index.invariant.accepting one;
      accepting = λ o. accepted _ _ c.in_ok-encode_member.was c.encode_member.ensures.returned;
    }

pub returns-in_err-encode_member-clause-offered : goal.returns-in_err-encode_member-clause-offered
returns-in_err-encode_member-clause-offered g c =
    let M = g.M.EncodePoint in
    let i = c.loop-index.index in
    let one = rw c.in_err-encode_member.was at c.encode_member.ensures.emitted in
    let exit = err_from_is_err_and c.from_residual.result c.from_residual.ensures.1 in
    let done = offers_member (named_labels c.args.names.now) M.points NeverFaults M.may_fault c.args.self.now.entries i c.in-Some.values.now c.in-Some.metric.now _ _ _ _ c.in-Some.ensures.shown c.loop-index.invariant.offered c.loop-index.invariant.accepting one in
    rw (exit.1, exit.2) (EmitsMembers-weaker _ _ _ (λ ms offered. (i + 1, offered)) (λ fault. fault) done)
