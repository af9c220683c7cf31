use Rattle.std.proofs.Common.{◌≡◌, ◌<◌, ℕ, slice_get, Some, false}
use Rattle.fm_metrics.proofs.state_set.find_state.Given as goal

abbrev pub invariant-loop-i : goal.invariant-loop-i
invariant-loop-i g l = (k : ℕ) → k < l.i → (y : _) → slice_get l.all k ≡ Some y → g.T.PartialEq.eq y l.state ≡ false
