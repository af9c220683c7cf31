-- How the families of a collector are registered: in their order, up to the first that is refused.
use Rattle.std.specs.Prelude.{◌≡◌, ◌⊎◌, ◌+◌, ℕ, List, [], ◌∷◌, Option, None, Result, Ok, Err}
use Rattle.std.specs.Option.{option_map}
use Rattle.fm_grammar.specs.declared.MetricType.{MetricType}
use Rattle.fm_raw.specs.declared.metadata.Unit as unit
use Rattle.fm_raw.specs.Units.{seen_unit}
use Rattle.fm_registry_rules.specs.LabelNames.{shown_texts}
use Rattle.fm_registry_rules.specs.declared.error.RegistryError.{RegistryError}
use Rattle.fm_registry_rules.specs.declared.error.RegistryError.TheVariants.{Memory}
use Rattle.fm_core.specs.Named.{named_metric}
use Rattle.fm_family.specs.declared.vec.collected.Collected.{Collected}
use Rattle.fastmetrics.specs.Roots.{RootState, IsRefused, AddsOrNot, names_refusal_here}
use Rattle.fastmetrics.specs.Fits.{fit_refusal_here}
use Rattle.fastmetrics.specs.declared.registry.description.Description.{Description}
use Rattle.fastmetrics.specs.declared.registry.kinds.Metric.{Metric}
use Rattle.fastmetrics.specs.declared.registry.kinds.Metric.TheVariants.{Own}

-- the family at this place among those of a clone of the collector, with the label names of its description
pub record IsFamilyAt {M C : Type 0} (IsClone : C → C → Type 0) (collector : C) (place : ℕ) (description : Description) (family : Collected M C) : Type 0 where
  pub names : family.names ≡ shown_texts description.labels.now
  pub clone : IsClone collector family.collector
  pub at : family.family ≡ place

module _ {H X M C : Type 0} (IsClone : C → C → Type 0) (Holds : Collected M C → X → Type 0) (type : MetricType) (Types : Metric H X → MetricType → Type 0) (collector : C) where
  -- The family of one description was registered with this result. At an error all is as it was: there was no memory, its label names
  -- can't be there, or the registration was refused.
  abbrev pub AddsFamily : ℕ → Description → RootState (Metric H X) → RootState (Metric H X) → Result (Unit {0}) RegistryError → Type 0
  AddsFamily place d old new result =
      ((result ≡ Err Memory) × (new ≡ old))
      ⊎ (IsRefused (names_refusal_here type (shown_texts d.labels.now) old) old new result
      ⊎ ((names_refusal_here type (shown_texts d.labels.now) old ≡ None)
      × ((family : Collected M C) × (held : X) × (u : Option unit.Unit)
      × IsFamilyAt IsClone collector place d family × Holds family held × (option_map seen_unit u ≡ option_map seen_unit d.unit)
      × AddsOrNot (fit_refusal_here old d.name.now u (Own held)) (Types (Own held)) (named_metric d.name.now d.help.now u (Own held)) old new result)))

  -- Those of all descriptions were registered, in order, the first of them at this place; or those before the first that was refused, whose error is the result.
  abbrev pub AddsFamilies : ℕ → List Description → RootState (Metric H X) → RootState (Metric H X) → Result (Unit {0}) RegistryError → Type 0
  AddsFamilies place [] old new result = (new ≡ old) × (result ≡ Ok tt)
  AddsFamilies place (d ∷ ds) old new result =
      ((e : RegistryError) × (result ≡ Err e) × AddsFamily place d old new (Err e))
      ⊎ ((between : RootState (Metric H X)) × AddsFamily place d old between (Ok tt) × AddsFamilies (place + 1) ds between new result)
