-- A root whose metrics fit stays so.
use Rattle.std.proofs.Common.{Option, Some, None, IfSome, Result, Ok, Err, sym, subst}
use Rattle.fm_grammar.specs.declared.MetricType.{MetricType}
use Rattle.fm_raw.specs.declared.metadata.Unit as unit
use Rattle.fm_registry_rules.specs.Texts.{Text, Path, Labels, printed_name}
use Rattle.std.specs.Option.{option_map}
use Rattle.fm_raw.specs.Units.{seen_unit}
use Rattle.fm_registry_rules.specs.Registration.{Registration, printed_unit}
use Rattle.fm_registry_rules.specs.Tree.{Tree, subtree_from}
use Rattle.fm_registry_rules.specs.Listing.{Listed}
use Rattle.fm_registry_rules.specs.inside.Fitting.{FitsAt, HasFittingHistory}
use Rattle.fm_registry_rules.specs.declared.error.RegistryError.{RegistryError}
use Rattle.fm_registry_rules.proofs.FittingTreeLemmas.{fitting-root, fitting-subsystem}
use Rattle.fm_core.specs.HasHistory.{IsNewRoot}
use Rattle.fm_core.specs.Named.{named_metric}
use Rattle.fm_core.proofs.FittingLemmas.{fitting_registers}
use Rattle.fastmetrics.specs.Roots.{RootState, Adds, Enters}
use Rattle.fastmetrics.specs.declared.registry.kinds.Metric.{Metric}
use Rattle.fastmetrics.specs.inside.FittingMetrics.{FitsUnder, HasType, Fits, FitsUnderAt}

module _ {M : Type 0} (Fitting : Listed M → Type 0) where
  -- a new root
  pub fitting_new : (namespace : Option Text) (labels : Labels) (t : Tree M) → IsNewRoot namespace labels t → HasFittingHistory Fitting t
  fitting_new namespace labels t new = fitting-root Fitting t namespace labels new.reads

  -- a registration of a metric that fits the root's subsystem, or one that was refused
  pub fitting_adds : (Types : MetricType → Type 0) (asked : MetricType → Registration M) (old new : RootState M) (r : Result (Unit {0}) RegistryError) → Adds Types asked old new r
      → ((t : MetricType) → Types t → FitsAt Fitting old.tree old.path (asked t)) → HasFittingHistory Fitting old.tree → HasFittingHistory Fitting new.tree
  fitting_adds Types asked old new r adds fits h = fitting_registers Fitting old.path Types asked old.tree new.tree r adds.registers fits h

  -- going on in a subsystem
  pub fitting_enters : (name : Text) (labels : Labels) (old new : RootState M) (r : Result (Unit {0}) RegistryError) → Enters name labels old new r → HasFittingHistory Fitting old.tree → HasFittingHistory Fitting new.tree
  fitting_enters name labels old new (Ok x) enters h = fitting-subsystem Fitting old.tree new.tree old.path name labels h enters.ok.1
  fitting_enters name labels old new (Err e) enters h = subst (λ (root : RootState M). HasFittingHistory Fitting root.tree) (sym enters.err) h

module _ {H X : Type 0} where
  -- a metric that fits under the labels there, and the type that it declares
  pub fits_at : (t : Tree (Metric H X)) (path : Path) (name help : Text) (u : Option unit.Unit) (m : Metric H X) (type : MetricType) → FitsUnderAt t path name u m → HasType m type → FitsAt Fits t path (named_metric name help u m type)
  fits_at t path name help u m type under same = by (subtree_from (Some t) path) under
    where
      by : (o : Option (Tree (Metric H X))) → IfSome o (λ c. FitsUnder (printed_name c.facts.namespace name (printed_unit (option_map seen_unit u))) c.facts.labels m) → IfSome o (λ c. Fits (record { namespace = c.facts.namespace; labels = c.facts.labels; registration = named_metric name help u m type }))
      by None h = h
      by (Some c) h = (same, h)
