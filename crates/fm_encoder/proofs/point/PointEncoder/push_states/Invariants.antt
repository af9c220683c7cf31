use Rattle.std.proofs.Common.{◌≡◌, take, map, None}
use Rattle.fm_encoder.specs.inside.Samples.{state_sample}
use Rattle.fm_encoder.specs.States.{state_of}
use Rattle.fm_encoder.specs.inside.Steps.{PushesSamples}
use Rattle.fm_encoder.proofs.point.PointEncoder.push_states.Given as goal

abbrev pub invariant-loop-state : goal.invariant-loop-state
invariant-loop-state l = record {
  pushed : PushesSamples (map (state_sample l.fn.self.setting l.fn.self.common) (map state_of (take l.state-index l.states))) l.fn.self l.self;
  accepting : l.self.refused ≡ None;
}
