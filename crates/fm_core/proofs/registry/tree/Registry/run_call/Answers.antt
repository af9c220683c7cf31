use Rattle.fm_core.proofs.GrowthLemmas.{Grows-returned, Grows-sound}
use Rattle.fm_core.proofs.registry.tree.Registry.run_call.Goals as goal

pub returns-clause-grows : goal.returns-clause-grows
returns-clause-grows g c = Grows-returned _ _ c.apply_call.ensures.call c.apply_call.result c.apply_call.ensures.ok c.apply_call.ensures.err

pub returns-clause-sound : goal.returns-clause-sound
returns-clause-sound g c = Grows-sound _ _ (returns-clause-grows g c)
