use Rattle.fm_metrics.proofs.NameLemmas.{IsDistinct-copy}
use Rattle.fm_metrics.proofs.named_states.add_copy.Goals as goal

pub returns-clause-different : goal.returns-clause-different
returns-clause-different c =
    rw c.in_ok-push.ensures.items
    (IsDistinct-copy _ _ c.args.name.now c.in_ok-from_str.ensures.ok (rw (← c.as_slice.ensures.value) c.in_default.ensures) c.requires)
