-- One more request.
use Rattle.std.proofs.Common.{◌≡◌, List, [], ◌∷◌, ◌++◌, Option, Result, Ok, Err, OnOk, OnErr, sym, ap, subst, length, arith}
use Rattle.fm_registry_rules.specs.History.{History, Call}
use Rattle.fm_registry_rules.specs.Tree.{Tree, Reads}
use Rattle.fm_registry_rules.specs.Answer.{Refusal, after, refusal_of}
use Rattle.fm_registry_rules.specs.Running.{Runs, IsReply, after_reply}
use Rattle.std.proofs.lemmas.List.{length_push}
use Rattle.fm_registry_rules.specs.declared.error.RegistryError.{RegistryError}

module _ {M : Type 0} where
  -- one call more, with its reply
  last : (b : History M) (call : Call M) (r : Result (Unit {0}) RegistryError) (t u : Tree M)
      → ((c : History M) → Reads t c → IsReply (refusal_of r) c call) → OnOk r ((c : History M) → Reads t c → Reads u (after c call)) → OnErr r (u ≡ t)
      → Reads t b → Runs b (call ∷ []) (refusal_of r ∷ []) u
  last b call (Ok x) t u said reads same h = (said b h, reads b h)
  last b call (Err e) t u said reads same h = (said b h, subst (λ v. Reads v b) (sym same) h)

  pub Runs-more : (b : History M) (calls : List (Call M)) (replies : List (Option Refusal)) (call : Call M) (r : Result (Unit {0}) RegistryError) (t u : Tree M)
      → ((c : History M) → Reads t c → IsReply (refusal_of r) c call) → OnOk r ((c : History M) → Reads t c → Reads u (after c call)) → OnErr r (u ≡ t)
      → Runs b calls replies t → Runs b (calls ++ call ∷ []) (replies ++ refusal_of r ∷ []) u
  Runs-more b [] [] call r t u said reads same h = last b call r t u said reads same h
  Runs-more b [] (q ∷ replies) call r t u said reads same h = absurd h
  Runs-more b (c ∷ calls) [] call r t u said reads same h = absurd h
  Runs-more b (c ∷ calls) (q ∷ replies) call r t u said reads same h = (h.0, Runs-more (after_reply q b c) calls replies call r t u said reads same h.1)

-- one reply more for one call more
pub same_length-push : {A B : Type 0} (news olds : List A) (r : A) (done : List B) (x : B) → news ≡ olds ++ r ∷ [] → length olds ≡ length done → length news ≡ length (done ++ x ∷ [])
same_length-push news olds r done x new same = omega (arith, ap length new, length_push olds r, length_push done x, same)
