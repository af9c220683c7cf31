use Rattle.std.proofs.Common.{length}
use Rattle.fm_core.proofs.registry.tree.registry_call.+ask_at.Given as goal

abbrev pub decreases-ask_at : goal.decreases-ask_at
decreases-ask_at g l = length l.path.now
