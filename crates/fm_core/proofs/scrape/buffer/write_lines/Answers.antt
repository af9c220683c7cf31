use Rattle.fm_exposition.specs.Written.{IsWritersFault}
use Rattle.fm_grammar.proofs.ResultLemmas.{on_ok_more, if_err_more}
use Rattle.fm_exposition.proofs.RowLemmas.{document_written}
use Rattle.fm_core.proofs.scrape.buffer.write_lines.Goals as goal

pub returns-clause-document : goal.returns-clause-document
returns-clause-document g c = λ e formed is. on_ok_more c.write_to.result _ _ (λ wrote. (c.args.lines.now, rw is (document_written e formed.well_formed), wrote)) c.write_to.ensures.ok

pub returns-clause-stopped : goal.returns-clause-stopped
returns-clause-stopped g c = λ e formed is. if_err_more c.write_to.result _ _ IsWritersFault (λ begun. (c.args.lines.now, rw is (document_written e formed.well_formed), begun)) c.write_to.ensures.stopped
