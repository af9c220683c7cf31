use Rattle.std.proofs.Common.{◌≡◌, Some, refl, sym, ◌∙◌}
use Rattle.fm_family.specs.Members.{ShowsMetric}
use Rattle.fm_family.specs.inside.Indexed.{HoldsMetric}
use Rattle.fm_family.proofs.MemberLemmas.{gets_told, gets_refused, refused_absent}
use Rattle.fm_family.proofs.members.FamilyCore.get_or_new.Goals as goal

pub returns-in-Err : goal.returns-in-Err
returns-in-Err g c =
    let cloned = g.LS.Clone.is_clone in let eq = g.LS.PartialEq.eq in let promises = g.MF.MetricFactory.promises c.args.factory.now in
    let old = c.args.self.now.entries in let new = c.index_or_new.new.self.entries in (
      (refl, λ _. tt, gets_refused cloned eq promises c.args.labels.now old new (HoldsMetric new) ShowsMetric c.in-Err.refusal c.in-Err.ensures.gets),
      record { gets = tt; there = λ some. absurd (refused_absent cloned eq promises c.args.labels.now old new (HoldsMetric new) c.in-Err.refusal c.in-Err.ensures.gets some) },
    )

pub returns-in-Ok : goal.returns-in-Ok
returns-in-Ok g c =
    let old = c.args.self.now.entries in let new = c.index_or_new.new.self.entries in
    let shows = λ (m : _) (h : HoldsMetric new c.in-Ok.index m). (let e : Some c.at.result.now ≡ Some m = sym c.at.ensures ∙ h in let f : c.at.result.now ≡ m = cc in f) in
    let got = gets_told g.LS.Clone.is_clone g.LS.PartialEq.eq (g.MF.MetricFactory.promises c.args.factory.now) c.args.labels.now old new (HoldsMetric new) ShowsMetric c.in-Ok.index c.at.result shows c.in-Ok.ensures.gets in
    ((refl, λ _. tt, got), record { gets = tt; there = λ _. refl })
