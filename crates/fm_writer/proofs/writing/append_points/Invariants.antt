use Rattle.std.proofs.Common.{drop}
use Rattle.fm_exposition.specs.inside.Points.{AreInPoints}
use Rattle.fm_exposition.specs.Rows.{sample_rows}
use Rattle.fm_exposition.specs.Samples.{samples_of}
use Rattle.fm_text.specs.inside.Grown.{IsLeftOf}
use Rattle.fm_writer.proofs.writing.append_points.Given as goal

abbrev pub invariant-loop-count : goal.invariant-loop-count
invariant-loop-count g l = record {
  points : AreInPoints (drop l.count-index l.points) l.rest;
  rendered : IsLeftOf (sample_rows l.name (samples_of l.rest)) (sample_rows l.name (samples_of l.samples)) (g.O.Output.stands_for l.fn.text) (g.O.Output.stands_for l.text);
}
