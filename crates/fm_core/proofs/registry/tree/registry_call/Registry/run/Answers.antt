use Rattle.std.proofs.Common.{refl, arith}
use Rattle.fm_registry_rules.proofs.RunLemmas.{same_length-push}
use Rattle.fm_core.proofs.GrowthLemmas.{Grows-same}
use Rattle.fm_core.proofs.PathLemmas.{RunsCalls-more, RunsCalls-sound, RunsCalls-grows}
use Rattle.fm_core.proofs.registry.tree.registry_call.Registry.run.Goals as goal

pub loop-call-preserved : goal.loop-call-preserved
loop-call-preserved g c =
    let items = c.push_reserved.ensures.items in (
      tt,
      tt,
      same_length-push c.push_reserved.new.self.items c.loop-call.replies.items c.run_call-reply.result c.loop-call.yielded c.in-Some.call items c.loop-call.invariant.2,
      omega (arith, c.push_reserved.ensures.capacity, c.loop-call.invariant.3),
      RunsCalls-more _ c.loop-call.yielded c.in-Some.call c.args.self.now c.loop-call.self c.run_call-reply.new.self c.loop-call.replies.items c.push_reserved.new.self.items c.run_call-reply.result items c.loop-call.invariant.4 c.run_call-reply.ensures.runs,
    )

pub returns-clause-sound : goal.returns-clause-sound
returns-clause-sound g c = RunsCalls-sound _ _ _ _ _ c.loop-call.invariant.4

pub returns-in_default-clause-grows : goal.returns-in_default-clause-grows
returns-in_default-clause-grows g c = Grows-same c.args.self.now c.args.self.now refl

pub returns-clause-grows : goal.returns-clause-grows
returns-clause-grows g c = RunsCalls-grows _ _ _ _ _ c.loop-call.invariant.4
