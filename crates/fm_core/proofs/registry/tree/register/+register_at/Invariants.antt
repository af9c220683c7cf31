use Rattle.std.proofs.Common.{length}
use Rattle.fm_core.proofs.registry.tree.register.+register_at.Given as goal

abbrev pub decreases-register_at : goal.decreases-register_at
decreases-register_at g l = length l.path.now
