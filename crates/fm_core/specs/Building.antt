-- What a registry is after the builder of a subsystem ends.
use Rattle.std.specs.Prelude.{◌≡◌, Result}
use Rattle.std.specs.String.{string_bytes}
use Rattle.std.specs.Borrow.{Fml, RattleType, MutBor, RestsIfErr}
use Rattle.fm_grammar.specs.LabelPairs.{labels_of}
use Rattle.fm_registry_rules.specs.Tree.{Tree}
use Rattle.fm_core.specs.Lends.{lends_subsystem}
use Rattle.fm_core.specs.contracts.registry.tree.Registry.{the_row}
use Rattle.fm_core.specs.declared.registry.tree.Subsystem.{Subsystem}
use Rattle.fm_core.specs.declared.registry.tree.subsystem_builder.RegistrySubsystemBuilder.{RegistrySubsystemBuilder}

module _ (M : RattleType) where
  -- at an `Err` the registry is as it was
  abbrev pub rests_if_refused : {E : Type 0} → MutBor (Tree M.Denot) → Result (RegistrySubsystemBuilder M.Denot) E → Fml
  rests_if_refused t r = RestsIfErr (the_row M) t (λ b. b.registry.ghost_name) r (λ w. w ≡ t.now)

  -- the same for a builder that is passed on
  abbrev pub builder_rests : {E : Type 0} → RegistrySubsystemBuilder M.Denot → Result (RegistrySubsystemBuilder M.Denot) E → Fml
  builder_rests b r = rests_if_refused b.registry r

  -- what the builder's registry is once the borrow of the subsystem ends
  abbrev pub lends_built : {E : Type 0} → RegistrySubsystemBuilder M.Denot → Result (MutBor (Subsystem M.Denot)) E → Fml
  lends_built b r = lends_subsystem M b.registry (string_bytes b.name) (labels_of b.labels.items) r
