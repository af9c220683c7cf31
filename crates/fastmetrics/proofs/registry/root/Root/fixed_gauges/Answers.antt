use Rattle.fastmetrics.proofs.registry.root.Root.fixed_gauges.Goals as goal

pub returns : goal.returns
returns g c = rw (c.labels.ensures, c.new.ensures.name, c.new.ensures.help, c.new.ensures.unit) at c.make_family.ensures
