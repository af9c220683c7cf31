use Rattle.std.proofs.Common.{◌≡◌, take, map, None}
use Rattle.fm_encoder.specs.inside.Samples.{quantile_sample}
use Rattle.fm_encoder.specs.inside.Steps.{PushesSamples}
use Rattle.fm_encoder.proofs.point.PointEncoder.push_quantiles.Given as goal

abbrev pub invariant-loop-quantile : goal.invariant-loop-quantile
invariant-loop-quantile l = record {
  pushed : PushesSamples (map (quantile_sample l.fn.self.setting l.fn.self.common) (take l.quantile-index l.quantiles)) l.fn.self l.self;
  accepting : l.self.refused ≡ None;
}
