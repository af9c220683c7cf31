use Rattle.std.proofs.Common.{refl}
use Rattle.fm_metrics.specs.StateNames.{state_names}
use Rattle.fm_metrics.proofs.NameLemmas.{Contains-from_test, absent}
use Rattle.fm_metrics.proofs.named_states.NamedStates.set.Goals as goal

pub returns-in-Some : goal.returns-in-Some
returns-in-Some c =
    Contains-from_test (state_names c.args.self.now) c.args.name.now (rw (← c.deref.ensures, ← c.as_slice.ensures.value) c.in-Some.ensures)

pub returns-in-None : goal.returns-in-None
returns-in-None c =
    (refl, absent (state_names c.args.self.now) c.args.name.now (rw (← c.deref.ensures, ← c.as_slice.ensures.value) c.in-None.ensures))
