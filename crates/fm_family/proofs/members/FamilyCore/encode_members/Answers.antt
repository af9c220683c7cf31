use Rattle.std.proofs.Common.{◌<◌, ◌+◌, sym, length, arith}
use Rattle.std.proofs.lemmas.Result.{err_from_is_err_and}
use Rattle.fm_labels.specs.WrittenLabels.{AreWritten}
use Rattle.fm_encoder.proofs.MemberLemmas.{EmitsMembers-weaker}
use Rattle.fm_family.proofs.WrittenLemmas.{written_count, written_at, lent_if}
use Rattle.fm_family.proofs.MemberLemmas.{accepted, offers_member}
use Rattle.fm_family.proofs.members.FamilyCore.encode_members.Goals as goal

pub index-requires : goal.index-requires
index-requires g c =
    let inside = c.self.inside in
    let counted = written_count g.LS.EncodeLabelSet.labels inside.members.entries inside.labels.items c.self.invariant in
    let within : c.loop-index.index < length inside.members.entries = omega arith in
    omega arith

pub encode_member-requires : goal.encode_member-requires
encode_member-requires g c =
    let inside = c.self.inside in let labels = g.LS.EncodeLabelSet.labels in
    let written = written_at labels inside.members.entries inside.labels.items c.loop-index.index (c.in-Some.labels.now, c.in-Some.metric.now) c.index.result.now c.self.invariant c.in-Some.ensures.entry c.index.ensures in
    record { written = lent_if (AreWritten (labels c.in-Some.labels.now)) c.as_ref.result c.index.result.now c.as_ref.ensures.value written }

pub loop-index-preserved : goal.loop-index-preserved
loop-index-preserved g c =
    let LS = g.LS.EncodeLabelSet in let M = g.M.EncodePoint in
    let one = rw c.in_ok-encode_member.was at c.encode_member.ensures.emitted in
    record {
      offered = offers_member LS.labels M.points LS.may_fault M.may_fault c.args.self.now.entries c.loop-index.index c.in-Some.labels.now c.in-Some.metric.now _ _ _ _ (rw (← c.self.view_is) (sym c.in-Some.ensures.entry)) c.loop-index.invariant.offered c.loop-index.invariant.accepting one;
      accepting = λ o. accepted _ _ c.in_ok-encode_member.was c.encode_member.ensures.returned;
    }

pub returns-in_err-encode_member-clause-offered : goal.returns-in_err-encode_member-clause-offered
returns-in_err-encode_member-clause-offered g c =
    let LS = g.LS.EncodeLabelSet in let M = g.M.EncodePoint in
    let i = c.loop-index.index in
    let one = rw c.in_err-encode_member.was at c.encode_member.ensures.emitted in
    let exit = err_from_is_err_and c.from_residual.result c.from_residual.ensures.1 in
    let done = offers_member LS.labels M.points LS.may_fault M.may_fault c.args.self.now.entries i c.in-Some.labels.now c.in-Some.metric.now _ _ _ _ (rw (← c.self.view_is) (sym c.in-Some.ensures.entry)) c.loop-index.invariant.offered c.loop-index.invariant.accepting one in
    rw (exit.1, exit.2) (EmitsMembers-weaker _ _ _ (λ ms offered. (i + 1, offered)) (λ fault. fault) done)
