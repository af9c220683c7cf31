-- A call below a path of subsystems, each of which is asked for before it.
use Rattle.std.specs.Prelude.{◌≡◌, ◌⊎◌, ◌++◌, ◌∷◌, [], List, Option, None, Some, map}
use Rattle.std.specs.Borrow.{Bor}
use Rattle.fm_grammar.specs.declared.MetricType.{MetricType}
use Rattle.fm_registry_rules.specs.Texts.{Text, Path}
use Rattle.fm_registry_rules.specs.Registration.{Registration}
use Rattle.fm_registry_rules.specs.History.{History, Call, Register, Subsystem}
use Rattle.fm_registry_rules.specs.Answer.{Refusal, Memory, after}
use Rattle.fm_registry_rules.specs.Running.{IsReply, after_reply}
use Rattle.fm_registry_rules.specs.Tree.{Tree, Reads}

-- the names of a path that are borrowed
abbrev pub shown_path : List (Bor Text) → Path
shown_path names = map (λ name. name.now) names

module _ {M : Type 0} where
  -- a call got this reply from the history, and the tree reads what it reads then
  pub record Replied (call : Call M) (b : History M) (reply : Option Refusal) (t : Tree M) : Type 0 where
    pub is : IsReply reply b call
    pub reads : Reads t (after_reply reply b call)

  -- The subsystems on a path are asked for in turn, without labels, below the path `above`; then a call is made, as `Last` says. At
  -- the first refusal, or where there is no memory, nothing more is done, and the subsystems before it stay.
  abbrev pub Below : (History M → Option Refusal → Tree M → Type 0) → Path → Path → History M → Option Refusal → Tree M → Type 0
  Below Last above [] b reply t = Last b reply t
  Below Last above (name ∷ names) b reply t =
      ((why : Refusal) × (reply ≡ Some why) × ((why ≡ Memory) ⊎ IsReply reply b (Subsystem above name [])) × Reads t b)
      ⊎ (IsReply None b (Subsystem above name []) × Below Last (above ++ name ∷ []) names (after b (Subsystem above name [])) reply t)

  -- a metric is registered at this path, with a type that it may declare
  abbrev pub RegistersBelow : Path → (MetricType → Type 0) → (MetricType → Registration M) → History M → Option Refusal → Tree M → Type 0
  RegistersBelow path Types asked b reply t = (metric_type : MetricType) × Types metric_type × Replied (Register path (asked metric_type)) b reply t
