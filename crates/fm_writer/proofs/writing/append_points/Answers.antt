use Rattle.fm_exposition.specs.Rows.{sample_row}
use Rattle.fm_exposition.proofs.PointLemmas.{next_point}
use Rattle.fm_writer.proofs.PartLemmas.{point_more}
use Rattle.fm_writer.proofs.writing.append_points.Goals as goal

pub loop-count-preserved : goal.loop-count-preserved
loop-count-preserved g c =
    let next = next_point c.args.points.now c.loop-count.count-index c.loop-count.rest.now c.loop-count-test.true c.loop-count.invariant.points in
    record {
      points = rw c.split_at.ensures.back next.3;
      rendered = point_more (sample_row c.args.name.now) _ c.loop-count.rest.now c.split_at.result.0.now c.split_at.result.1.now _ _ _ _ c.split_at.ensures.front c.split_at.ensures.back c.loop-count.invariant.rendered (rw c.in_ok-append_point.was at c.append_point.ensures);
    }
