-- What the registration of a metric does, with the type that the metric declared.
use Rattle.std.specs.Prelude.{◌≡◌, [], Result, OnOk, OnErr}
use Rattle.fm_grammar.specs.declared.MetricType.{MetricType}
use Rattle.fm_registry_rules.specs.Texts.{Path}
use Rattle.fm_registry_rules.specs.Registration.{Registration}
use Rattle.fm_registry_rules.specs.History.{History, Register}
use Rattle.fm_registry_rules.specs.Answer.{IsReturned, refusal_of, answer, after}
use Rattle.fm_registry_rules.specs.Tree.{Tree, Reads}
use Rattle.fm_registry_rules.specs.declared.error.RegistryError.{RegistryError}

module _ {M : Type 0} where
  -- The metric declared a type that it may declare. For every history that the registry read, the result is the history's for
  -- the registration at this path, or there was no memory; at `Ok` the registry reads the history after the call, and at `Err`
  -- it is as it was.
  pub record RegistersAt (path : Path) (Types : MetricType → Type 0) (asked : MetricType → Registration M) (old new : Tree M) (result : Result (Unit {0}) RegistryError) : Type 0 where
    pub metric_type : MetricType
    pub declared : Types metric_type
    pub answer : (b : History M) → Reads old b → IsReturned (refusal_of result) (answer b (Register path (asked metric_type)))
    pub ok : OnOk result ((b : History M) → Reads old b → Reads new (after b (Register path (asked metric_type))))
    pub err : OnErr result (new ≡ old)

  -- the same in this registry
  abbrev pub Registers : (MetricType → Type 0) → (MetricType → Registration M) → Tree M → Tree M → Result (Unit {0}) RegistryError → Type 0
  Registers = RegistersAt []
