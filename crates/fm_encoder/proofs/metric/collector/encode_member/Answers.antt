use Rattle.std.proofs.Common.{sym, ◌∙◌, refl}
use Rattle.fm_labels.proofs.Cases.{none_from_answer}
use Rattle.fm_encoder.proofs.MemberLemmas.{EmitsMembers-one}
use Rattle.fm_encoder.proofs.metric.collector.encode_member.Goals as goal

pub returns : goal.returns
returns g c =
    let inside = c.encoder.inside in
    let accepting = sym c.begin_member.ensures.emitted.refused ∙ none_from_answer _ c.begin_member.ensures.returned c.in_ok-begin_member.was in
    let offered = EmitsMembers-one inside.constants.labels (g.LS.EncodeLabelSet.labels c.args.labels.now) _ _ _ inside.points _ _ _ _ c.begin_member.ensures.emitted c.encode-visited.ensures c.end_points.ensures.emitted accepting in
    rw (c.end_points.ensures.returned, ← c.encoder.view_is) (record { emitted = offered; returned = refl })
