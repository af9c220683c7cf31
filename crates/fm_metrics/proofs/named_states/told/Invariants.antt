use Rattle.std.proofs.Common.{◌≡◌, map, take, string_bytes}
use Rattle.fm_encoder.specs.States.{state_of}
use Rattle.fm_metrics.specs.NamedStates.{named_states}
use Rattle.fm_metrics.proofs.named_states.told.Given as goal

abbrev pub invariant-loop-name : goal.invariant-loop-name
invariant-loop-name l = map state_of l.told.items ≡ named_states (map string_bytes (take l.name-index l.names)) l.current
