use Rattle.std.proofs.Common.{inr, refl}
use Rattle.fm_core.proofs.GrowthLemmas.{Grows-same, Grows-sound}
use Rattle.fastmetrics.proofs.PathLemmas.{told_at, subsystem_asked}
use Rattle.fastmetrics.proofs.registry.paths.add_subsystem_at.Goals as goal

pub returns-in_err-names-clause-grows : goal.returns-in_err-names-clause-grows
returns-in_err-names-clause-grows g c = Grows-same _ _ refl

pub returns-in_err-call-clause-grows : goal.returns-in_err-call-clause-grows
returns-in_err-call-clause-grows g c = Grows-same _ _ refl

pub returns-clause-sound : goal.returns-clause-sound
returns-clause-sound g c = Grows-sound _ _ c.call_below.ensures.grows

pub returns-clause-asks : goal.returns-clause-asks
returns-clause-asks g c = inr (λ b reads. told_at _ _
    (subsystem_asked _ _ _ _ _ _ c.in_ok-names.ensures c.in_ok-call.ensures) c.new.result.items _ b _ _ c.new.ensures.items (c.call_below.ensures.calls b reads))
