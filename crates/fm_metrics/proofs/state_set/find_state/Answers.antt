use Rattle.std.proofs.Common.{◌≡◌, ◌<◌, length, slice_get, Some, true, false, refl, arith, sym, ◌∙◌}
use Rattle.std.proofs.lemmas.Option.{slice_get_read, slice_get_within}
use Rattle.fm_metrics.proofs.StateLemmas.{equals_itself, no_match_more}
use Rattle.fm_metrics.proofs.state_set.find_state.Goals as goal

pub loop-i-init : goal.loop-i-init
loop-i-init g c = λ k h. let z : k < 0 = h in absurd (omega (arith, z))

pub loop-i-preserved : goal.loop-i-preserved
loop-i-preserved g c =
    let at : slice_get c.args.all.now c.loop-i.i ≡ Some c.index-all-i.result =
    slice_get_read _ (length c.args.all.now) _ _ refl c.loop-i-test.true c.index-all-i.is in
    let differs : g.T.PartialEq.eq c.index-all-i.result c.args.state.now ≡ false = sym c.eq.ensures ∙ c.if-eq.false in
    no_match_more g.T.PartialEq.eq _ _ _ c.args.state.now at differs c.loop-i.invariant

pub returns-then-eq-clause-index : goal.returns-then-eq-clause-index
returns-then-eq-clause-index g c =
    let at : slice_get c.args.all.now c.loop-i.i ≡ Some c.index-all-i.result =
    slice_get_read _ (length c.args.all.now) _ _ refl c.loop-i-test.true c.index-all-i.is in
    let equals : g.T.PartialEq.eq c.index-all-i.result c.args.state.now ≡ true = sym c.eq.ensures ∙ c.if-eq.true in
    (c.index-all-i.result, at, equals_itself _ g.met.T.PartialEq.laws _ _ equals)

pub returns-then-eq-clause-found : goal.returns-then-eq-clause-found
returns-then-eq-clause-found g c =
    let at : slice_get c.args.all.now c.loop-i.i ≡ Some c.index-all-i.result =
    slice_get_read _ (length c.args.all.now) _ _ refl c.loop-i-test.true c.index-all-i.is in
    let equals : g.T.PartialEq.eq c.index-all-i.result c.args.state.now ≡ true = sym c.eq.ensures ∙ c.if-eq.true in
    (c.loop-i.i, c.index-all-i.result, at, equals)

pub returns-clause-index : goal.returns-clause-index
returns-clause-index g c = λ i x at.
    let within : i < length c.args.all.now = slice_get_within _ _ _ at in
    c.loop-i.invariant i (omega (arith, within)) x at

pub returns-clause-found : goal.returns-clause-found
returns-clause-found g c = λ i x at.
    let within : i < length c.args.all.now = slice_get_within _ _ _ at in
    c.loop-i.invariant i (omega (arith, within)) x at
