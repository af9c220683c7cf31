-- The values that constant metrics were made with.
use Rattle.std.specs.Prelude.{Option}
use Rattle.std.specs.declared.time.Duration.{Duration}
use Rattle.fm_metrics.specs.declared.counter.ConstCounter.{ConstCounter}
use Rattle.fm_metrics.specs.declared.gauge.ConstGauge.{ConstGauge}
use Rattle.fm_metrics.specs.declared.info.Info.{Info}
use Rattle.fm_metrics.specs.declared.unknown.Unknown.{Unknown}

abbrev pub constant_total : {N : Type 0} → ConstCounter N → N
constant_total counter = counter.total

abbrev pub constant_created : {N : Type 0} → ConstCounter N → Option Duration
constant_created counter = counter.created

abbrev pub constant_value : {N : Type 0} → ConstGauge N → N
constant_value gauge = gauge.value

abbrev pub unknown_value : {N : Type 0} → Unknown N → N
unknown_value metric = metric.value

-- the label set of an info metric
abbrev pub label_set_of : {LS : Type 0} → Info LS → LS
label_set_of info = info.labels
