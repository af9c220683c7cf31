use Rattle.std.proofs.Common.{◌≡◌, refl, sym, ◌∙◌}
use Rattle.std.proofs.lemmas.Result.{err_from_is_err_and}
use Rattle.std.specs.Fn.{FnOnceReturnsAt}
use Rattle.fm_family.specs.inside.Indexed.{HoldsMetric}
use Rattle.fm_family.proofs.MemberLemmas.{GetsOrAdds-tells}
use Rattle.fm_family.proofs.members.FamilyCore.with_or_new.Goals as goal

pub returns-in_err-index-clause-gets : goal.returns-in_err-index-clause-gets
returns-in_err-index-clause-gets g c =
    let exit = err_from_is_err_and c.from_residual.result c.from_residual.ensures.1 in
    rw (exit.1, exit.2) c.in_err-index.ensures.gets

pub returns-clause-gets : goal.returns-clause-gets
returns-clause-gets g c =
    let new = c.index_or_new.new.self.entries in
    let same = λ (m : g.row.M.Denot) (holds : HoldsMetric new c.in_ok-index.index m). let is : c.at.result.now ≡ m = cc (sym c.at.ensures ∙ holds) in is in
    GetsOrAdds-tells g.LS.Clone.is_clone g.LS.PartialEq.eq (g.MF.MetricFactory.promises c.args.factory.now) c.args.labels.now c.args.self.now.entries new (HoldsMetric new) (λ r m. FnOnceReturnsAt g.F.FnOnce c.args.f m r)
    c.in_ok-index.index c.f.result (λ m holds. (c.at.result, c.f.ensures, same m holds)) c.in_ok-index.ensures.gets

pub returns-clause-called : goal.returns-clause-called
returns-clause-called g c = (c.at.result.now, (c.at.result, c.f.ensures, refl))
