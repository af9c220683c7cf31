use Rattle.std.proofs.Common.{inr, refl}
use Rattle.fastmetrics.specs.inside.FittingMetrics.{Fits}
use Rattle.fastmetrics.proofs.RootLemmas.{entered}
use Rattle.fastmetrics.proofs.FittingLemmas.{fitting_enters}
use Rattle.fastmetrics.proofs.registry.root.Root.enter.Goals as goal

pub invariant_of-self-2 : goal.invariant_of-self-2
invariant_of-self-2 g c = fitting_enters Fits _ _ _ _ _ (entered _ _ _ _ _ _ _ _ c.in_ok-call.ensures c.in_ok-run_call.ensures.runs c.run_call.ensures.grows c.in_ok-below.ensures) c.self.invariant

pub returns-clause-enters : goal.returns-clause-enters
returns-clause-enters g c = rw (← c.self.view_is)
    (inr (entered _ _ _ _ _ _ _ _ c.in_ok-call.ensures c.in_ok-run_call.ensures.runs c.run_call.ensures.grows c.in_ok-below.ensures))

pub returns-clause-rest : goal.returns-clause-rest
returns-clause-rest g c = rw (← c.self.view_is) refl
