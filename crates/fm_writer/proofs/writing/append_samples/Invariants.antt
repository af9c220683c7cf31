use Rattle.fm_exposition.specs.Rows.{sample_row}
use Rattle.fm_exposition.specs.Samples.{samples_of}
use Rattle.fm_text.specs.inside.Grown.{IsLeft}
use Rattle.fm_writer.proofs.writing.append_samples.Given as goal

abbrev pub invariant-loop-sample : goal.invariant-loop-sample
invariant-loop-sample g l = IsLeft (sample_row l.name) (samples_of l.samples) l.sample-index (g.O.Output.stands_for l.fn.text) (g.O.Output.stands_for l.text)
