-- Why a timer counted nothing.
use Rattle.std.specs.Prelude.{◌≡◌, ◌⊎◌}
use Rattle.fm_raw.specs.declared.error.MetricError.TheVariants.{CountFull}
use Rattle.fm_histogram.specs.declared.timer.TimerError.{TimerError}
use Rattle.fm_histogram.specs.declared.timer.TimerError.TheVariants.{Clock, Metric}

-- the histogram's count is full, or the clock gave an error
abbrev pub IsTimerFault : TimerError → Type 0
IsTimerFault e = (e ≡ Metric CountFull) ⊎ ((fault : _) × (e ≡ Clock fault))
