-- The parts of a counter that its clones share.
use Rattle.std.specs.Prelude.{Option}
use Rattle.std.specs.Arc.{arc_value}
use Rattle.std.specs.declared.time.Duration.{Duration}
use Rattle.fm_metrics.specs.declared.counter.Counter.{Counter}

-- the time of creation that the clones of a counter share; W is the type of the atomic that contains its total
abbrev pub counter_created : {N W : Type 0} → Counter N W → Option Duration
counter_created counter = (arc_value counter.count).created

-- the atomic that contains a counter's total, which its clones share
abbrev pub counter_total : {N W : Type 0} → Counter N W → W
counter_total counter = (arc_value counter.count).total
