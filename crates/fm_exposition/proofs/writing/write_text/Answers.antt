use Rattle.fm_exposition.proofs.WrittenLemmas.{all_but_taken}
use Rattle.fm_exposition.proofs.writing.write_text.Goals as goal

pub loop-rest-preserved : goal.loop-rest-preserved
loop-rest-preserved g c = all_but_taken _ _ _ c.in-Ok.count c.loop-rest.rest.now c.args.text.now c.loop-rest.invariant c.in-Ok.ensures.bytes
