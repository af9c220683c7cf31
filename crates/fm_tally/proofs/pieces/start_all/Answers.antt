use Rattle.std.proofs.Common.{◌≡◌, get_or, rules, arith}
use Rattle.std.proofs.lemmas.Grind.{common_steps}
use Rattle.fm_tally.proofs.PieceLemmas.{after_push}
use Rattle.fm_tally.proofs.pieces.start_all.Goals as goal

pub loop-index-preserved : goal.loop-index-preserved
loop-index-preserved g c =
    let before = c.loop-index.invariant in
    let pushed = c.push_reserved.ensures.items in
    record {
      len = search rules;
      room = search rules;
      index_is = after_push (λ k w. w.promise.index ≡ k) _ _ _ _ pushed (search rules) before.index_is (search rules);
      empty_is = after_push (λ _ w. w.promise.empty.now ≡ c.args.empty.now) _ _ _ _ pushed (search rules) before.empty_is (search rules);
      gate_is = after_push (λ _ w. w.promise.gate.now ≡ c.args.gate.now) _ _ _ _ pushed (search rules) before.gate_is (search rules);
      piece_is = λ k d e. after_push (λ i w. w.promise.piece.now ≡ (get_or c.args.pieces.now i e).items) _ _ _ _ pushed (search rules) (λ i d'. before.piece_is i d' e) (grind (arith, common_steps)) k d;
    }
