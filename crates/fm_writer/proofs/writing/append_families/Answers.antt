use Rattle.fm_exposition.specs.inside.DocumentRows.{family_rows}
use Rattle.fm_writer.specs.inside.Utf8.{IsUtf8Family}
use Rattle.fm_text.proofs.GrownLemmas.{left_more_is}
use Rattle.fm_writer.proofs.Utf8Lemmas.{taken_more}
use Rattle.fm_writer.proofs.writing.append_families.Goals as goal

pub loop-family-preserved : goal.loop-family-preserved
loop-family-preserved g c = (
  left_more_is family_rows _ _ c.family-item.result _ _ _ c.loop-family-test.true c.family-item.is c.loop-family.invariant.0 (rw c.in_ok-append_family.was at c.append_family.ensures.rows),
  taken_more IsUtf8Family _ _ c.family-item.result c.loop-family-test.true c.family-item.is (rw c.in_ok-append_family.was at c.append_family.ensures.utf8) c.loop-family.invariant.1,
)
