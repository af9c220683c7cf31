use Rattle.std.proofs.Common.{◌≡◌, ◌≤◌, length, map}
use Rattle.std.specs.Vec.{vec_capacity}
use Rattle.fm_registry_rules.specs.Answer.{refusal_of}
use Rattle.fm_core.specs.Calls.{RunsCalls}
use Rattle.fm_core.proofs.registry.tree.registry_call.Registry.run.Given as goal

abbrev pub invariant-loop-call : goal.invariant-loop-call
invariant-loop-call g l =
    (goal.iterator-loop-call g).can_next l.call-iterator ×
    (goal.iterator-loop-call g).is_finite l.call-iterator ×
    (length l.replies.items ≡ length l.yielded) ×
    (length l.fn.calls.items ≤ vec_capacity l.replies) ×
    RunsCalls (λ m t. (goal.EncodeMetric-dyn g (m.vtable, m.value)).types m.value t) l.yielded l.fn.self l.self (map refusal_of l.replies.items)
