-- What the lock protects: a registry that reads some history.
use Rattle.fm_core.specs.HasHistory.{HasHistory}
use Rattle.fm_core.specs.declared.registry.global.Protected.TheInside.{Inside}

abbrev pub IsSound : {M : Type 0} → Inside M → Type 0
IsSound protected = HasHistory protected.registry
