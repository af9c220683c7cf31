-- The families of a collector, one by one.
use Rattle.std.proofs.Common.{◌≡◌, ◌<◌, ◌≤◌, ◌+◌, ℕ, zero, suc, List, [], ◌∷◌, Result, Ok, Err, drop, length, get_or, inl, inr, refl, subst, arith}
use Rattle.fm_grammar.specs.declared.MetricType.{MetricType}
use Rattle.fm_registry_rules.specs.declared.error.RegistryError.{RegistryError}
use Rattle.fm_family.specs.declared.vec.collected.Collected.{Collected}
use Rattle.fastmetrics.specs.Roots.{RootState}
use Rattle.fastmetrics.specs.Collectors.{AddsFamily, AddsFamilies}
use Rattle.fastmetrics.specs.declared.registry.description.Description.{Description}
use Rattle.fastmetrics.specs.declared.registry.kinds.Metric.{Metric}

module _ {H X M C : Type 0} (IsClone : C → C → Type 0) (Holds : Collected M C → X → Type 0) (type : MetricType) (Types : Metric H X → MetricType → Type 0) (collector : C) where
  -- the family at an index was registered, and then those after it
  pub next_family : (n i : ℕ) (ds : List Description) (d : Description) (old between new : RootState (Metric H X)) (r : Result (Unit {0}) RegistryError) → i < length ds → d ≡ get_or ds i d
      → AddsFamily IsClone Holds type Types collector n d old between (Ok tt) → AddsFamilies IsClone Holds type Types collector (n + 1) (drop (suc i) ds) between new r
      → AddsFamilies IsClone Holds type Types collector n (drop i ds) old new r
  next_family n i [] d old between new r within is one more = absurd (omega arith)
  next_family n zero (d' ∷ ds) d old between new r within is one more = inr (between, subst (λ it. AddsFamily IsClone Holds type Types collector n it old between (Ok tt)) is one, more)
  next_family n (suc i) (d' ∷ ds) d old between new r within is one more = next_family n i ds d old between new r (omega arith) is one more

  -- the family at an index was refused
  pub refused_family : (n i : ℕ) (ds : List Description) (d : Description) (old new : RootState (Metric H X)) (e : RegistryError) → i < length ds → d ≡ get_or ds i d
      → AddsFamily IsClone Holds type Types collector n d old new (Err e) → AddsFamilies IsClone Holds type Types collector n (drop i ds) old new (Err e)
  refused_family n i [] d old new e within is one = absurd (omega arith)
  refused_family n zero (d' ∷ ds) d old new e within is one = inl (e, refl, subst (λ it. AddsFamily IsClone Holds type Types collector n it old new (Err e)) is one)
  refused_family n (suc i) (d' ∷ ds) d old new e within is one = refused_family n i ds d old new e (omega arith) is one

  -- no family is left
  pub no_family : (n i : ℕ) (ds : List Description) (old : RootState (Metric H X)) → length ds ≤ i → AddsFamilies IsClone Holds type Types collector n (drop i ds) old old (Ok tt)
  no_family n zero [] old long = (refl, refl)
  no_family n (suc i) [] old long = (refl, refl)
  no_family n zero (d ∷ ds) old long = absurd (omega arith)
  no_family n (suc i) (d ∷ ds) old long = no_family n i ds old (omega arith)
