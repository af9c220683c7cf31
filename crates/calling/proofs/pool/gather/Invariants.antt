use Rattle.std.proofs.Common.{◌≡◌, map, Ok, vec_items}
use Rattle.calling.proofs.pool.gather.Given as goal

abbrev pub invariant-loop-share : goal.invariant-loop-share
invariant-loop-share g l = map Ok (vec_items l.shares) ≡ l.yielded
