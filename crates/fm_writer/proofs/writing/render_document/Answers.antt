use Rattle.std.proofs.Common.{[], codes}
use Rattle.fm_exposition.specs.inside.DocumentRows.{families_rows}
use Rattle.fm_grammar.proofs.ResultLemmas.{on_ok_more}
use Rattle.fm_text.proofs.GrownLemmas.{grown_then}
use Rattle.fm_writer.proofs.writing.render_document.Goals as goal

pub returns-clause-document : goal.returns-clause-document
returns-clause-document g c = on_ok_more c.put.result _ _ (λ end. (grown_then _ _ _ (families_rows c.args.families.now) (codes "# EOF\n") (rw c.in_ok-append_families.was at c.append_families.ensures.rows) end).grows [] c.reset.ensures) c.put.ensures

pub returns-clause-utf8 : goal.returns-clause-utf8
returns-clause-utf8 g c = on_ok_more c.put.result _ _ (λ _. rw c.in_ok-append_families.was at c.append_families.ensures.utf8) c.put.ensures
