-- How contracts see a metric with its metadata.
use Rattle.std.specs.Prelude.{Option, String}
use Rattle.std.specs.declared.alloc.Global.{Global}
use Rattle.std.specs.Option.{option_map}
use Rattle.std.specs.String.{string_bytes}
use Rattle.fm_grammar.specs.declared.MetricType.{MetricType}
use Rattle.fm_raw.specs.declared.metadata.Metadata.{Metadata}
use Rattle.fm_raw.specs.declared.metadata.Unit as unit
use Rattle.fm_raw.specs.Units.{seen_unit}
use Rattle.fm_registry_rules.specs.Registration.{Registration}

-- a metric with its metadata
abbrev pub seen_metric : {M : Type 0} → Metadata → M → Registration M
seen_metric metadata metric = record {
  name = string_bytes metadata.name;
  help = string_bytes metadata.help;
  metric_type = metadata.metric_type;
  unit = option_map seen_unit metadata.unit;
  metric = metric;
}

-- the metadata with these parts
abbrev pub asked : String Global → String Global → MetricType → Option unit.Unit → Metadata
asked name help metric_type u = record { name = name; help = help; metric_type = metric_type; unit = u }

-- the metric that a call asks to register, with the type that it declared
abbrev pub asked_metric : {M : Type 0} → String Global → String Global → Option unit.Unit → M → MetricType → Registration M
asked_metric name help u metric metric_type = seen_metric (asked name help metric_type u) metric
