use Rattle.fm_encoder.specs.inside.Samples.{state_sample}
use Rattle.fm_encoder.specs.States.{state_of}
use Rattle.fm_labels.proofs.Cases.{none_from_answer}
use Rattle.fm_encoder.proofs.BucketLemmas.{PushesSamples-seen}
use Rattle.fm_encoder.proofs.point.PointEncoder.push_states.Goals as goal

pub loop-state-preserved : goal.loop-state-preserved
loop-state-preserved c = record {
  pushed = PushesSamples-seen state_of state_sample c.args.states.now c.loop-state.state-index _ c.args.self.now c.loop-state.self c.push_state.new.self c.loop-state-test.true c.loop-state.invariant.pushed c.loop-state.invariant.accepting c.push_state.ensures.emitted;
  accepting = none_from_answer _ c.push_state.ensures.returned c.in_ok-push_state.was;
}
