-- The histories that calls lead to: a valid root, and calls that were accepted in turn.
use Rattle.std.specs.Prelude.{◌≡◌, ◌≤◌, ⊤, List, [], ◌∷◌, None, IfSome}
use Rattle.fm_grammar.specs.Names.{IsSnakeCase}
use Rattle.fm_grammar.specs.WellFormed.{AreLabels}
use Rattle.fm_registry_rules.specs.History.{Call, History, with_more}
use Rattle.fm_registry_rules.specs.Answer.{answer, gained}

module _ {M : Type 0} where
  -- the root has a valid namespace and valid labels, and is no deeper than a registry may be
  pub record IsRoot (b : History M) : Type 0 where
    pub namespace : IfSome b.namespace IsSnakeCase
    pub labels : AreLabels b.labels
    pub depth : b.depth ≤ 64

  -- the history accepts the call, and gains it
  pub record IsAccepted (b : History M) (call : Call M) : Type 0 where
    pub answer : answer b call ≡ None
    pub new : gained b call ≡ call ∷ []

  -- each call was accepted by the history of those before it, and added to it
  abbrev pub AreAccepted : History M → List (Call M) → Type 0
  AreAccepted b [] = ⊤
  AreAccepted b (call ∷ calls) = IsAccepted b call × AreAccepted (with_more b (call ∷ [])) calls

  -- the calls of a history were accepted in turn
  pub record IsHistory (b : History M) : Type 0 where
    pub root : IsRoot b
    pub accepted : AreAccepted (record b { calls = [] }) b.calls
