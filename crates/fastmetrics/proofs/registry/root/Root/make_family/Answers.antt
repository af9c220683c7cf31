use Rattle.fastmetrics.proofs.RootLemmas.{made_named}
use Rattle.fastmetrics.proofs.registry.root.Root.make_family.Goals as goal

pub returns : goal.returns
returns g c = made_named _ _ _ _ _ _ _ _ _ c.in_ok-family.family c.keep_metric.result c.in_ok-family.ensures.answer c.in_ok-family.ensures.names c.keep_metric.ensures
