-- What a registration does to a registry that is known only while its lock is held.
use Rattle.std.specs.Prelude.{Result}
use Rattle.fm_registry_rules.specs.Tree.{Tree}
use Rattle.fm_registry_rules.specs.declared.error.RegistryError.{RegistryError}
use Rattle.fm_core.specs.HasHistory.{HasHistory}

-- the lock protected a registry that reads some history, and this was done there, with this result
pub record RegistersLocked {M : Type 0} (IsDone : Tree M → Tree M → Result (Unit {0}) RegistryError → Type 0) (result : Result (Unit {0}) RegistryError) : Type 0 where
  pub old : Tree M
  pub new : Tree M
  pub sound : HasHistory old
  pub registers : IsDone old new result
