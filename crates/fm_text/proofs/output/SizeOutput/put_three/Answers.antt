use Rattle.std.proofs.Common.{◌++◌}
use Rattle.fm_grammar.proofs.ResultLemmas.{on_ok_more}
use Rattle.fm_text.proofs.GrownLemmas.{grown_then}
use Rattle.fm_text.proofs.output.SizeOutput.put_three.Goals as goal

pub returns : goal.returns
returns c = on_ok_more c.put-3.result _ _ (λ last. grown_then _ _ _ c.args.first.now (c.args.second.now ++ c.args.third.now) (rw c.in_ok-put.was at c.put.ensures) (grown_then _ _ _ c.args.second.now c.args.third.now (rw c.in_ok-put-2.was at c.put-2.ensures) last)) c.put-3.ensures
