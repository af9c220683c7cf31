use Rattle.fm_grammar.proofs.ResultLemmas.{on_ok_more}
use Rattle.fm_writer.proofs.Utf8Lemmas.{stored_samples}
use Rattle.fm_writer.proofs.writing.append_family.Goals as goal

pub returns-clause-utf8 : goal.returns-clause-utf8
returns-clause-utf8 g c = on_ok_more c.append_points.result _ _ (λ _. record {
  help = rw c.help.ensures at c.help.utf8;
  samples = rw c.points.ensures.samples at (stored_samples c.points.result.1.now c.points.ensures.utf8);
}) c.append_points.ensures
