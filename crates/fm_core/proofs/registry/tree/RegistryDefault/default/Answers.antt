use Rattle.fm_core.proofs.SoundLemmas.{new_empty_root}
use Rattle.fm_core.proofs.registry.tree.RegistryDefault.default.Goals as goal

pub returns : goal.returns
returns g c = new_empty_root
