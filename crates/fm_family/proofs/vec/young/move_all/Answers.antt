use Rattle.fm_family.proofs.YoungLemmas.{moved_one, moved_room}
use Rattle.fm_family.proofs.vec.young.move_all.Goals as goal

pub loop-values-preserved-in-Ok : goal.loop-values-preserved-in-Ok
loop-values-preserved-in-Ok g c = record {
  whole = moved_one c.args.to.now.entries c.args.from.now.entries c.loop-values.to c.insert.new.self c.loop-values.from.entries c.pop.new.self.entries c.in-Some.values c.in-Some.metric c.requires c.loop-values.invariant.whole c.in-Some.ensures.entries c.in-Ok.ensures.entries;
  room = moved_room c.loop-values.from.entries c.pop.new.self.entries (c.in-Some.values, c.in-Some.metric) _ _ c.in-Some.ensures.entries c.loop-values.invariant.room c.insert.ensures.spare;
}

pub loop-values-preserved-in-Ok-2 : goal.loop-values-preserved-in-Ok-2
loop-values-preserved-in-Ok-2 g c = record {
  whole = moved_one c.args.to.now.entries c.args.from.now.entries c.loop-values.to c.insert.new.self c.loop-values.from.entries c.pop.new.self.entries c.in-Some.values c.in-Some.metric c.requires c.loop-values.invariant.whole c.in-Some.ensures.entries c.in-Ok.ensures.entries;
  room = moved_room c.loop-values.from.entries c.pop.new.self.entries (c.in-Some.values, c.in-Some.metric) _ _ c.in-Some.ensures.entries c.loop-values.invariant.room c.insert.ensures.spare;
}
