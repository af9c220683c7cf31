use Rattle.std.proofs.Common.{subst}
use Rattle.fm_histogram.specs.Histogram.{is_taken}
use Rattle.fm_histogram.specs.Observing.{ObservesLocked}
use Rattle.fm_histogram.proofs.histogram.Histogram+H.observe_duration.Goals as goal

pub returns-clause-observes : goal.returns-clause-observes
returns-clause-observes g c = subst (λ seconds. ObservesLocked is_taken seconds c.observe.result) c.seconds_of.ensures c.observe.ensures.observes
