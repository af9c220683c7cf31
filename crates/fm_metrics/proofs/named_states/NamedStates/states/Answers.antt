use Rattle.std.proofs.lemmas.Result.{IfOk-weaker}
use Rattle.fm_metrics.specs.StateNames.{state_names}
use Rattle.fm_metrics.proofs.NameLemmas.{shows_one}
use Rattle.fm_metrics.proofs.named_states.NamedStates.states.Goals as goal

pub returns-clause-told : goal.returns-clause-told
returns-clause-told c =
    IfOk-weaker c.told.result _ _
    (λ told is. shows_one (state_names c.args.self.now) _ _ (rw c.deref.ensures at c.deref.result.now.different) c.get.ensures (rw (c.as_slice.ensures.value, c.deref.ensures) at is))
    c.told.ensures.told
