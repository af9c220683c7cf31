use Rattle.fm_exposition.specs.inside.DocumentRows.{document_rows}
use Rattle.fm_exposition.specs.Written.{IsWritersFault}
use Rattle.fm_grammar.proofs.ResultLemmas.{on_ok_more, if_err_more}
use Rattle.fm_exposition.proofs.RowLemmas.{document_written}
use Rattle.fm_writer.proofs.Utf8Lemmas.{document_utf8}
use Rattle.fm_writer.proofs.writing.encode_exposition.Goals as goal

pub returns-clause-document : goal.returns-clause-document
returns-clause-document g c = on_ok_more c.write_text.result _ _ (λ wrote. (document_rows c.args.exposition.now, document_written _ c.families.ensures.well_formed.well_formed, rw (c.as_slice.ensures, c.in_ok-text.ensures.document, c.families.ensures.same) at wrote)) c.write_text.ensures.ok

pub returns-clause-stopped : goal.returns-clause-stopped
returns-clause-stopped g c = if_err_more c.write_text.result _ _ IsWritersFault (λ begun. (document_rows c.args.exposition.now, document_written _ c.families.ensures.well_formed.well_formed, rw (c.as_slice.ensures, c.in_ok-text.ensures.document, c.families.ensures.same) at begun)) c.write_text.ensures.stopped

pub returns-clause-utf8 : goal.returns-clause-utf8
returns-clause-utf8 g c = on_ok_more c.write_text.result _ _ (λ wrote. (document_rows c.args.exposition.now, document_written _ c.families.ensures.well_formed.well_formed, document_utf8 _ c.families.ensures.well_formed.well_formed (rw c.families.ensures.same at c.in_ok-text.ensures.utf8), rw (c.as_slice.ensures, c.in_ok-text.ensures.document, c.families.ensures.same) at wrote)) c.write_text.ensures.ok
