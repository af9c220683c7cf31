use Rattle.std.proofs.Common.{length}
use Rattle.fastmetrics.proofs.registry.paths.+call_below.Given as goal

abbrev pub decreases-call_below : goal.decreases-call_below
decreases-call_below g l = length l.path.now
