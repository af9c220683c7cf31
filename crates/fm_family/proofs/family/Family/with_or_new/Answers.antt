use Rattle.std.proofs.Common.{refl}
use Rattle.std.specs.Arc.{arc_value}
use Rattle.std.specs.Fn.{FnOnceReturnsAt}
use Rattle.fm_family.proofs.MemberLemmas.{GetsOrAdds-found}
use Rattle.fm_family.proofs.family.Family.with_or_new.Goals as goal

pub returns-in-Some-clause-gets : goal.returns-in-Some-clause-gets
returns-in-Some-clause-gets g c =
    let members = c.deref-core.result.now.entries in let metric = c.in-Some.metric in
    let called : FnOnceReturnsAt g.F.FnOnce c.args.f metric.now c.f.result = (metric, c.f.ensures, refl) in
    record {
      old = members;
      new = members;
      sound = c.are_different.ensures;
      is_done = GetsOrAdds-found g.LS.Clone.is_clone g.LS.PartialEq.eq (g.MF.MetricFactory.promises (arc_value c.args.self.now.shared).factory) c.args.labels.now members (λ r m. FnOnceReturnsAt g.F.FnOnce c.args.f m r) c.f.result metric.now c.in-Some.ensures called;
    }

pub returns-in-Some-clause-called : goal.returns-in-Some-clause-called
returns-in-Some-clause-called g c = (c.in-Some.metric.now, (c.in-Some.metric, c.f.ensures, refl))

pub returns-clause-gets : goal.returns-clause-gets
returns-clause-gets g c = rw (← c.deref-shared.ensures) (record {
  old = c.deref_mut.result.now.entries;
  new = c.with_or_new.new.self.entries;
  sound = c.with_or_new.ensures.different;
  is_done = c.with_or_new.ensures.gets;
})
