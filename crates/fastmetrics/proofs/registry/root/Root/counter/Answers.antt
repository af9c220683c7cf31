use Rattle.fastmetrics.proofs.registry.root.Root.counter.Goals as goal

pub returns : goal.returns
returns g c = rw (c.new.ensures.name, c.new.ensures.help, c.new.ensures.unit, c.new.ensures.created) at c.make.ensures
