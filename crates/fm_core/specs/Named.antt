-- Metrics by texts.
use Rattle.std.specs.Prelude.{◌≡◌, ◌⊎◌, Option, Result, Err}
use Rattle.std.specs.Option.{option_map}
use Rattle.fm_grammar.specs.declared.MetricType.{MetricType}
use Rattle.fm_grammar.specs.Exposition.{Text}
use Rattle.fm_raw.specs.declared.metadata.Unit as unit
use Rattle.fm_raw.specs.Units.{seen_unit}
use Rattle.fm_registry_rules.specs.Registration.{Registration}
use Rattle.fm_registry_rules.specs.declared.error.RegistryError.{RegistryError}
use Rattle.fm_registry_rules.specs.declared.error.RegistryError.TheVariants.{Memory}
use Rattle.fm_registry_rules.specs.Tree.{Tree}
use Rattle.fm_core.specs.Registers.{Registers}

-- the request to register a metric by a name and a help, once its type is known
abbrev pub named_metric : {M : Type 0} → Text → Text → Option unit.Unit → M → MetricType → Registration M
named_metric name help u metric metric_type = record { name = name; help = help; metric_type = metric_type; unit = option_map seen_unit u; metric = metric }

-- there was no memory for the name and the help, or the registration is as that of a metric by texts of one's own
abbrev pub AddsNamed : {M : Type 0} → (MetricType → Type 0) → (MetricType → Registration M) → Tree M → Tree M → Result (Unit {0}) RegistryError → Type 0
AddsNamed Types asked old new result = ((result ≡ Err Memory) × (new ≡ old)) ⊎ Registers Types asked old new result
