use Rattle.fm_encoder.specs.inside.Samples.{quantile_sample}
use Rattle.fm_labels.proofs.Cases.{none_from_answer}
use Rattle.fm_encoder.proofs.BucketLemmas.{PushesSamples-more}
use Rattle.fm_encoder.proofs.point.PointEncoder.push_quantiles.Goals as goal

pub loop-quantile-preserved : goal.loop-quantile-preserved
loop-quantile-preserved c = record {
  pushed = PushesSamples-more quantile_sample c.args.quantiles.now c.loop-quantile.quantile-index _ c.args.self.now c.loop-quantile.self c.push_quantile.new.self c.loop-quantile-test.true c.quantile-item.is c.loop-quantile.invariant.pushed c.loop-quantile.invariant.accepting c.push_quantile.ensures.emitted;
  accepting = none_from_answer _ c.push_quantile.ensures.returned c.in_ok-push_quantile.was;
}
