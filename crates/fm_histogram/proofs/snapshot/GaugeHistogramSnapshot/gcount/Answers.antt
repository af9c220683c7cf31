use Rattle.std.proofs.Common.{◌≡◌, subst}
use Rattle.fm_encoder.specs.Points.{values_in}
use Rattle.fm_histogram.specs.Histogram.{Histogram}
use Rattle.fm_histogram.proofs.SumLemmas.{counts_all}
use Rattle.fm_histogram.proofs.snapshot.GaugeHistogramSnapshot.gcount.Goals as goal

pub returns-clause-all : goal.returns-clause-all
returns-clause-all c = subst (λ (s : Histogram). values_in s.buckets ≡ s.count) c.self.view_is (counts_all _ _ c.self.invariant)
