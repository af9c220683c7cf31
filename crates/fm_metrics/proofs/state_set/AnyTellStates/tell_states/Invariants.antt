use Rattle.std.proofs.Common.{◌≡◌, map, take}
use Rattle.fm_encoder.specs.States.{state_of}
use Rattle.fm_metrics.specs.StateSets.{states_at}
use Rattle.fm_metrics.proofs.state_set.AnyTellStates.tell_states.Given as goal

abbrev pub invariant-loop-x : goal.invariant-loop-x
invariant-loop-x g l = map state_of l.told.items ≡ states_at g.T.PartialEq.eq (take l.x-index l.x-items) g.T.StateSetValue.text l.self
