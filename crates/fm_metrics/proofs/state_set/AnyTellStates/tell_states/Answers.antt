use mathlib.Core.Logic.{∥∥₁_elim}
use Rattle.std.proofs.Props.{props}
use Rattle.std.proofs.Common.{◌≡◌, map, take, length, arith, ◌∙◌}
use Rattle.std.proofs.Math.Seq.{take-length}
use Rattle.fm_encoder.specs.States.{state_of}
use Rattle.fm_metrics.specs.StateSets.{states_at}
use Rattle.fm_metrics.proofs.StateLemmas.{one_told}
use Rattle.fm_metrics.proofs.state_set.AnyTellStates.tell_states.Goals as goal

pub returns-clause-one : goal.returns-clause-one
returns-clause-one g c = λ apart known.
    let eq = g.T.PartialEq.eq in let all = g.T.StateSetValue.all in let text = g.T.StateSetValue.text in
    let state = c.args.self.now in let items = c.variants-x-items.result.now in
    let ended : c.loop-x.x-index ≡ length items = omega (arith, c.loop-x-test.false, c.loop-x.auto.x-index-end) in
    let whole : take c.loop-x.x-index items ≡ all = rw ended (take-length items ∙ c.variants-x-items.ensures) in
    let is : map state_of c.loop-x.told.items ≡ states_at eq all text state = rw whole at c.loop-x.invariant in
    ∥∥₁_elim known (hlevel props) (λ here. one_told eq g.met.T.PartialEq.laws all text state c.loop-x.told.items here is apart)
