use Rattle.std.proofs.Common.{◌++◌, refl, sym, option_copied}
use Rattle.std.specs.Fn.{FnOnceReturnsAt}
use Rattle.fm_labels.specs.LabelValues.{shown_texts}
use Rattle.fm_family.specs.VecNames.{vec_factory}
use Rattle.fm_family.proofs.VecLemmas.{FindsOrAdds-found}
use Rattle.fm_family.proofs.YoungLemmas.{lacks_memory, none_unless}
use Rattle.fm_family.proofs.vec.metric_vec.MetricVec.make.Goals as goal

pub returns-then-take_in-clause-finds : goal.returns-then-take_in-clause-finds
returns-then-take_in-clause-finds g c = rw (← c.deref-shared.ensures) (record {
  old = c.take_in.new.self;
  new = c.with_or_new.new.self;
  sound = c.with_or_new.ensures.different;
  is_done = c.with_or_new.ensures.finds;
})

pub returns-in-Some-clause-finds : goal.returns-in-Some-clause-finds
returns-in-Some-clause-finds g c =
    let members = c.take_in.new.self in let metric = c.in-Some.found in
    let called : FnOnceReturnsAt g.F.FnOnce c.args.f metric.now c.f.result = (metric, c.f.ensures, refl) in
    record {
      old = members;
      new = members;
      sound = c.are_different.ensures;
      is_done = FindsOrAdds-found (g.MF.MetricFactory.promises (vec_factory c.args.self.now)) members.limit (shown_texts c.args.values.now) members.entries (λ r m. FnOnceReturnsAt g.F.FnOnce c.args.f m r) c.f.result metric.now c.in-Some.ensures called;
    }

pub returns-in-Some-clause-called : goal.returns-in-Some-clause-called
returns-in-Some-clause-called g c = (c.in-Some.found.now, (c.in-Some.found, c.f.ensures, refl))

pub returns-in-Some-get-clause-finds : goal.returns-in-Some-get-clause-finds
returns-in-Some-get-clause-finds g c =
    let members = c.take_in.new.young in let metric = c.in-Some-get.metric in
    let called : FnOnceReturnsAt g.F.FnOnce c.args.f metric.now c.f-in-Some-get.result = (metric, c.f-in-Some-get.ensures, refl) in
    record {
      old = members;
      new = members;
      sound = c.are_different-2.ensures;
      is_done = FindsOrAdds-found (g.MF.MetricFactory.promises (vec_factory c.args.self.now)) members.limit (shown_texts c.args.values.now) members.entries (λ r m. FnOnceReturnsAt g.F.FnOnce c.args.f m r) c.f-in-Some-get.result metric.now c.in-Some-get.ensures called;
    }

pub returns-in-Some-get-clause-called : goal.returns-in-Some-get-clause-called
returns-in-Some-get-clause-called g c = (c.in-Some-get.metric.now, (c.in-Some-get.metric, c.f-in-Some-get.ensures, refl))

pub returns-in-None-clause-finds : goal.returns-in-None-clause-finds
returns-in-None-clause-finds g c =
    let members = c.take_in.new.self in let young = c.take_in.new.young in
    let all = record members { entries = members.entries ++ young.entries } in
    record {
      old = all;
      new = all;
      sound = c.take_in.ensures.beside.members;
      is_done = lacks_memory (g.MF.MetricFactory.promises (vec_factory c.args.self.now)) members.limit (shown_texts c.args.values.now) members.entries young.entries (λ r m. FnOnceReturnsAt g.F.FnOnce c.args.f m r) (none_unless option_copied c.get.result _ refl c.get.ensures c.in_default.not-Some) (sym c.in-None.ensures);
    }
