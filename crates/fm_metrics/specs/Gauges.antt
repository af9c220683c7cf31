-- The parts of a gauge that its clones share.
use Rattle.std.specs.Arc.{arc_value}
use Rattle.fm_metrics.specs.declared.gauge.Gauge.{Gauge}
use Rattle.fm_metrics.specs.declared.gauge.InProgress.{InProgress}

-- the atomic that contains a gauge's value, which its clones share; W is the type of the atomic
abbrev pub gauge_value : {N W : Type 0} → Gauge N W → W
gauge_value gauge = arc_value gauge.value

-- the atomic that is lowered by one when a guard is dropped
abbrev pub guarded_value : {N W : Type 0} → InProgress N W → W
guarded_value guard = guard.value.now
