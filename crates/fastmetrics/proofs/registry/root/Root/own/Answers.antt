use Rattle.std.proofs.Common.{inr, refl}
use Rattle.fastmetrics.specs.declared.registry.kinds.Metric.TheVariants.{Own}
use Rattle.fastmetrics.proofs.registry.root.Root.own.Goals as goal

pub returns-in-Err : goal.returns-in-Err
returns-in-Err g c =
    let (held, holds, adds) = c.add_own.ensures in
    inr (
      c.in-Ok.metric,
      record {
        clone = c.in-Ok-clone.clone;
        is_clone = c.in-Ok-clone.ensures.cases;
        metric = Own held;
        converts = (held, holds, refl);
        adds = rw c.in-Err.is at adds;
      },
    )
