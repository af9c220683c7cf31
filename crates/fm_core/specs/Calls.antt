-- Calls that are made in turn, each with the type that its metric declared.
use Rattle.std.specs.Prelude.{◌≡◌, ⊤, List, [], ◌∷◌, map, Option, String, Result, OnOk, OnErr}
use Rattle.std.specs.declared.alloc.Global.{Global}
use Rattle.std.specs.String.{string_bytes}
use Rattle.fm_grammar.specs.declared.MetricType.{MetricType}
use Rattle.fm_grammar.specs.LabelPairs.{labels_of}
use Rattle.fm_registry_rules.specs.Texts.{Path}
use Rattle.fm_registry_rules.specs.History as history
use Rattle.fm_registry_rules.specs.History.{History, Call}
use Rattle.fm_registry_rules.specs.Answer.{Refusal, refusal_of, after}
use Rattle.fm_registry_rules.specs.Tree.{Tree, Reads}
use Rattle.fm_registry_rules.specs.Running.{Runs, IsReply}
use Rattle.fm_registry_rules.specs.declared.error.RegistryError.{RegistryError}
use Rattle.fm_core.specs.View.{asked_metric}
use Rattle.fm_core.specs.declared.registry.tree.registry_call.RegistryCall as given

-- the names of a path
abbrev pub seen_path : List (String Global) → Path
seen_path names = map string_bytes names

module _ {M : Type 0} (Types : M → MetricType → Type 0) where
  -- a call of the history that was made: a metric is registered with a type that it may declare
  abbrev pub IsCall : given.RegistryCall M → Call M → Type 0
  IsCall (given.TheVariants.Register path name help unit metric) call =
      (t : MetricType) × Types metric t × (call ≡ history.Register (seen_path path.items) (asked_metric name help unit metric t))
  IsCall (given.TheVariants.Subsystem path name labels) call = call ≡ history.Subsystem (seen_path path.items) (string_bytes name) (labels_of labels.items)

  -- each of these calls, in order
  abbrev pub AreCalls : List (given.RegistryCall M) → List (Call M) → Type 0
  AreCalls [] [] = ⊤
  AreCalls (g ∷ gs) (call ∷ calls) = IsCall g call × AreCalls gs calls
  AreCalls [] (call ∷ calls) = ⊥
  AreCalls (g ∷ gs) [] = ⊥

  -- what calls in turn do: for every history that the registry read, each reply is that of the history at that moment, or
  -- there was no memory and the call may need some; the registry reads the history that results
  pub record RunsCalls (gs : List (given.RegistryCall M)) (old new : Tree M) (replies : List (Option Refusal)) : Type 0 where
    pub calls : List (Call M)
    pub are : AreCalls gs calls
    pub runs : (b : History M) → Reads old b → Runs b calls replies new

  -- what one call does: for every history that the registry read, the reply is the history's, or there was no memory and the
  -- call may need some; at `Ok` the registry reads the history after the call, and at `Err` it is as it was
  pub record RunsCall (g : given.RegistryCall M) (old new : Tree M) (result : Result (Unit {0}) RegistryError) : Type 0 where
    pub call : Call M
    pub is : IsCall g call
    pub reply : (b : History M) → Reads old b → IsReply (refusal_of result) b call
    pub ok : OnOk result ((b : History M) → Reads old b → Reads new (after b call))
    pub err : OnErr result (new ≡ old)
