use Rattle.fm_core.proofs.ForestLemmas.{index_from-forest_of}
use Rattle.fm_core.proofs.registry.tree.Registry.index_of.Goals as goal

pub returns-in-Some : goal.returns-in-Some
returns-in-Some g c = rw (← c.self.view_is, c.in-Some.is, c.position_of.ensures, c.deref.ensures.value) (index_from-forest_of {M = g.row.M.Denot} c.in-Some.subsystems.items 0 c.args.name.now)
