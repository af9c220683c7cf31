use Rattle.std.proofs.Common.{List, sym, subst}
use Rattle.fm_grammar.specs.Exposition.{Label}
use Rattle.fm_grammar.specs.Spelling.{label_list_text}
use Rattle.fm_exposition.specs.Rows.{sample_row}
use Rattle.fm_exposition.specs.Samples.{sample_of}
use Rattle.fm_exposition.proofs.PointLemmas.{common_at}
use Rattle.fm_text.proofs.GrownLemmas.{left_more_seen}
use Rattle.fm_writer.proofs.writing.append_samples.Goals as goal

pub append_sample-requires : goal.append_sample-requires
append_sample-requires g c =
    let same = common_at c.requires.0 _ _ c.sample-item.result c.loop-sample-test.true c.sample-item.is c.requires.2 in
    subst (λ (labels : List Label). g.O.Output.stands_for c.args.common_text.now (label_list_text labels)) (sym same) c.requires.1

pub loop-sample-preserved : goal.loop-sample-preserved
loop-sample-preserved g c = left_more_seen sample_of (sample_row c.args.name.now) _ _ c.sample-item.result _ _ _ c.loop-sample-test.true c.sample-item.is c.loop-sample.invariant (rw c.in_ok-append_sample.was at c.append_sample.ensures)
