-- What it means that calls made in turn got these replies.
use Rattle.std.specs.Prelude.{◌≡◌, List, [], ◌∷◌, Option, None, Some}
use Rattle.fm_registry_rules.specs.History.{History, Call}
use Rattle.fm_registry_rules.specs.Tree.{Tree, Reads}
use Rattle.fm_registry_rules.specs.Answer.{Refusal, IsReturned, answer, gained, after}

module _ {M : Type 0} where
  -- a call got the reply of the history, or there was no memory and the call may need some; a call that adds nothing to
  -- the history, since the subsystem exists, needs none
  pub record IsReply (reply : Option Refusal) (b : History M) (call : Call M) : Type 0 where
    pub returned : IsReturned reply (answer b call)
    pub there : gained b call ≡ [] → reply ≡ answer b call

  -- the history after a reply: a call that found no memory does not change it
  abbrev pub after_reply : Option Refusal → History M → Call M → History M
  after_reply None b call = after b call
  after_reply (Some reply) b call = b

  -- each call got its reply from the history at that moment, and the tree reads the history at the end
  abbrev pub Runs : History M → List (Call M) → List (Option Refusal) → Tree M → Type 0
  Runs b [] [] t = Reads t b
  Runs b (call ∷ calls) (reply ∷ replies) t = IsReply reply b call × Runs (after_reply reply b call) calls replies t
  Runs b [] (reply ∷ replies) t = ⊥
  Runs b (call ∷ calls) [] t = ⊥
