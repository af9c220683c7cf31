use Rattle.std.specs.Option.{option_map}
use Rattle.fm_encoder.specs.Points.{millis}
use Rattle.fm_histogram.specs.Histogram.{takes}
use Rattle.fm_histogram.proofs.ShownLemmas.{EmitsPoints-some}
use Rattle.fm_histogram.proofs.histogram.HistogramOfEncodePoint.encode.Goals as goal

pub returns : goal.returns
returns g c = rw (← c.deref-2.ensures) (EmitsPoints-some (λ s. g.S.Sign.point s (option_map millis c.deref-2.result.now.created)) (takes g.S.Sign.NEGATIVE) _ _ _ _ c.counts_taken.ensures c.encode_created.ensures)
