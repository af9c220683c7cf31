use Rattle.std.proofs.Common.{refl, option_copied}
use Rattle.std.specs.Fn.{FnOnceReturnsAt}
use Rattle.fm_labels.specs.LabelValues.{shown_texts}
use Rattle.fm_family.specs.VecNames.{vec_factory}
use Rattle.fm_family.proofs.VecLemmas.{FindsOrAdds-found}
use Rattle.fm_family.proofs.YoungLemmas.{joined_sound, young_adds, none_unless}
use Rattle.fm_family.specs.inside.Young.{joined}
use Rattle.fm_family.proofs.vec.metric_vec.MetricVec.with.Goals as goal

pub returns-in-Some-clause-called : goal.returns-in-Some-clause-called
returns-in-Some-clause-called g c = (c.in-Some.metric.now, (c.in-Some.metric, c.f.ensures, refl))

pub returns-in-Some-clause-finds : goal.returns-in-Some-clause-finds
returns-in-Some-clause-finds g c _ =
    let members = c.deref-core.result.now in let metric = c.in-Some.metric in
    let called : FnOnceReturnsAt g.F.FnOnce c.args.f metric.now c.f.result = (metric, c.f.ensures, refl) in
    record {
      old = members;
      new = members;
      sound = c.are_different.ensures;
      is_done = FindsOrAdds-found (g.MF.MetricFactory.promises (vec_factory c.args.self.now)) members.limit (shown_texts c.args.values.now) members.entries (λ r m. FnOnceReturnsAt g.F.FnOnce c.args.f m r) c.f.result metric.now c.in-Some.ensures called;
    }

pub returns-in-Some-get-clause-called : goal.returns-in-Some-get-clause-called
returns-in-Some-get-clause-called g c = (c.in-Some-get.made.now, (c.in-Some-get.made, c.f-in-Some-get.ensures, refl))

pub returns-in-Some-get-clause-finds : goal.returns-in-Some-get-clause-finds
returns-in-Some-get-clause-finds g c _ =
    let members = c.deref_mut-young.result.now in let metric = c.in-Some-get.made in
    let called : FnOnceReturnsAt g.F.FnOnce c.args.f metric.now c.f-in-Some-get.result = (metric, c.f-in-Some-get.ensures, refl) in
    record {
      old = members;
      new = members;
      sound = c.are_different-2.ensures;
      is_done = FindsOrAdds-found (g.MF.MetricFactory.promises (vec_factory c.args.self.now)) members.limit (shown_texts c.args.values.now) members.entries (λ r m. FnOnceReturnsAt g.F.FnOnce c.args.f m r) c.f-in-Some-get.result metric.now c.in-Some-get.ensures called;
    }

pub returns-then-has_room_beside-clause-finds : goal.returns-then-has_room_beside-clause-finds
returns-then-has_room_beside-clause-finds g c _ =
    let core = c.deref-core.result.now in let young = c.deref_mut-young.result.now in let new = c.with_or_new.new.self in
    let has = c.has_room_beside.ensures c.if-has_room_beside.true in
    rw (← c.deref-shared.ensures) (record {
      old = record core { entries = joined core.entries young.entries };
      new = record core { entries = joined core.entries new.entries };
      sound = joined_sound core young c.are_different.ensures c.are_different-2.ensures _ has;
      is_done = young_adds (g.MF.MetricFactory.promises c.deref-shared.result.now.factory) core.limit young.limit (shown_texts c.args.values.now) core.entries young.entries new.entries (λ r m. FnOnceReturnsAt g.F.FnOnce c.args.f m r) (none_unless option_copied c.get.result _ refl c.get.ensures c.in_default.not-Some) (none_unless option_copied c.get-2.result _ refl c.get-2.ensures c.in_default-get.not-Some) has.limit has.room c.with_or_new.result c.with_or_new.ensures.finds;
    })
