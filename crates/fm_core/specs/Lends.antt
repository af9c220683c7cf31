-- What a registry is once a `&mut` into it has ended.
use Rattle.std.specs.Prelude.{Result}
use Rattle.std.specs.String.{string_bytes}
use Rattle.std.specs.Borrow.{Fml, RattleType, MutBor, Lends, LendsIfOk}
use Rattle.fm_registry_rules.specs.Texts.{Text, Labels}
use Rattle.fm_registry_rules.specs.Tree.{Tree}
use Rattle.fm_registry_rules.specs.Steps.{with_named, with_subsystem}
use Rattle.fm_core.specs.contracts.registry.tree.Registry.{the_row}
use Rattle.fm_core.specs.contracts.registry.tree.Subsystem as subsystem
use Rattle.fm_core.specs.declared.registry.tree.Subsystem.{Subsystem}

module _ (M : RattleType) where
  -- the subsystem's registry is the final value of r
  abbrev pub lends_registry : MutBor (Subsystem M.Denot) → MutBor (Tree M.Denot) → Fml
  lends_registry s r = Lends (subsystem.the_row M) (the_row M) s r (λ w. record s.now { registry = w })

  -- Once the borrow of the subsystem with this name ends, the registry is the one with this subsystem, replaced by the
  -- final value of r. At an `Err` it is as it was.
  abbrev pub lends_subsystem : {E : Type 0} → MutBor (Tree M.Denot) → Text → Labels → Result (MutBor (Subsystem M.Denot)) E → Fml
  lends_subsystem t name labels r =
      let after = with_subsystem t.now name labels in
      LendsIfOk (the_row M) (subsystem.the_row M) t r (λ w. record after { children = with_named after.children name (string_bytes w.name) w.registry }) t.now
