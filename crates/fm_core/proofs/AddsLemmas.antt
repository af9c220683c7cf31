-- A registration by texts of one's own is one by the texts that they were made of.
use Rattle.std.proofs.Common.{◌≡◌, inr, subst, Option, Result, String, Global}
use Rattle.std.specs.String.{string_bytes}
use Rattle.fm_grammar.specs.declared.MetricType.{MetricType}
use Rattle.fm_grammar.specs.Exposition.{Text}
use Rattle.fm_raw.specs.declared.metadata.Unit as unit
use Rattle.fm_registry_rules.specs.Tree.{Tree}
use Rattle.fm_registry_rules.specs.declared.error.RegistryError.{RegistryError}
use Rattle.fm_core.specs.Registers.{Registers}
use Rattle.fm_core.specs.View.{asked_metric}
use Rattle.fm_core.specs.Named.{named_metric, AddsNamed}

pub Adds-named : {M : Type 0} (Types : MetricType → Type 0) (name help : String Global) (n h : Text) (u : Option unit.Unit) (metric : M) (old new : Tree M) (r : Result (Unit {0}) RegistryError) → string_bytes name ≡ n → string_bytes help ≡ h → Registers Types (asked_metric name help u metric) old new r → AddsNamed Types (named_metric n h u metric) old new r
Adds-named Types name help n h u metric old new r is_name is_help registers =
    let named = subst (λ (x : Text). Registers Types (named_metric x (string_bytes help) u metric) old new r) is_name registers in
    inr (subst (λ (x : Text). Registers Types (named_metric n x u metric) old new r) is_help named)
