use Rattle.std.proofs.Common.{[]}
use Rattle.fm_core.proofs.scrape.metric_family_encoder.MetricFamilyEncoder.for_lines.Goals.{in-Some, in-None}
use Rattle.fm_core.proofs.scrape.metric_family_encoder.MetricFamilyEncoder.for_lines.Goals as goal

pub invariant_of-result : goal.invariant_of-result
invariant_of-result c = λ accepting. elim c.match-parts.branch [
  | in-Some w ↦ rw w.encoder-is (record { output = ([], w.begin_document.ensures.output); accepting = w.begin_document.ensures.accepting })
  | in-None w ↦ rw w.encoder-is (record { output = ([], w.for_lines.ensures.output); accepting = w.for_lines.ensures.accepting })
]
