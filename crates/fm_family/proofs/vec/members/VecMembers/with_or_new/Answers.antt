use Rattle.std.proofs.Common.{◌≡◌, refl, sym, ◌∙◌}
use Rattle.std.proofs.lemmas.Result.{err_from_is_err_and}
use Rattle.std.specs.Fn.{FnOnceReturnsAt}
use Rattle.fm_labels.specs.LabelValues.{shown_texts}
use Rattle.fm_family.specs.inside.Indexed.{HoldsMetric}
use Rattle.fm_family.proofs.VecLemmas.{FindsOrAdds-tells}
use Rattle.fm_family.proofs.vec.members.VecMembers.with_or_new.Goals as goal

pub returns-in_err-index-clause-finds : goal.returns-in_err-index-clause-finds
returns-in_err-index-clause-finds g c =
    let exit = err_from_is_err_and c.from_residual.result c.from_residual.ensures.1 in
    rw (exit.1, exit.2) c.in_err-index.ensures.finds

pub returns-clause-finds : goal.returns-clause-finds
returns-clause-finds g c =
    let old = c.args.self.now in let new = c.index_or_new.new.self in
    let same = λ (m : g.row.M.Denot) (holds : HoldsMetric new.entries c.in_ok-index.index m). let is : c.at.result.now ≡ m = cc (sym c.at.ensures ∙ holds) in is in
    FindsOrAdds-tells (g.MF.MetricFactory.promises c.args.factory.now) old.limit (shown_texts c.args.values.now) old.entries new.entries (HoldsMetric new.entries) (λ r m. FnOnceReturnsAt g.F.FnOnce c.args.f m r)
    c.in_ok-index.index c.f.result (λ m holds. (c.at.result, c.f.ensures, same m holds)) c.in_ok-index.ensures.finds

pub returns-clause-called : goal.returns-clause-called
returns-clause-called g c = (c.at.result.now, (c.at.result, c.f.ensures, refl))
