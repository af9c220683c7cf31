-- Calls that go down a path, and calls in turn.
use Rattle.std.proofs.Common.{◌≡◌, ◌<◌, ℕ, suc, get_or, drop, List, [], ◌∷◌, ◌++◌, map, length, Option, None, Some, IsSome, Result, Ok, Err, OnOk, OnErr, refl, sym, ap, subst, inr, ◌∙◌, String, Global}
use Rattle.std.specs.String.{string_bytes}
use Rattle.std.proofs.Math.Seq.{drop-cons}
use Rattle.std.proofs.lemmas.List.{map-append, nil_from_length}
use Rattle.fm_grammar.specs.declared.MetricType.{MetricType}
use Rattle.fm_registry_rules.specs.Texts.{Text, Path, has_text}
use Rattle.fm_registry_rules.specs.History.{Call, History, in_front}
use Rattle.fm_registry_rules.specs.Tree.{Tree, Reads, find_child, subtree_from}
use Rattle.fm_registry_rules.specs.Steps.{with_named, with_child}
use Rattle.fm_registry_rules.specs.Answer.{Refusal, NoSuchSubsystem, missing_name, refusal_of, after}
use Rattle.fm_registry_rules.specs.Running.{Runs, IsReply, after_reply}
use Rattle.fm_registry_rules.specs.declared.error.RegistryError.{RegistryError}
use Rattle.fm_registry_rules.proofs.TreeLemmas.{reads_root, absent_from_find, with_named-itself}
use Rattle.fm_registry_rules.proofs.AnswerLemmas.{missing-answer}
use Rattle.fm_registry_rules.proofs.CallLemmas.{down-reads, down-reply}
use Rattle.fm_registry_rules.proofs.RunLemmas.{Runs-more}
use Rattle.fm_core.specs.HasHistory.{HasHistory, Grows}
use Rattle.fm_core.specs.inside.Missing.{missing_below, missing_in}
use Rattle.fm_core.specs.Calls.{IsCall, AreCalls, RunsCall, RunsCalls, seen_path}
use Rattle.fm_core.proofs.GrowthLemmas.{Grows-run}
use Rattle.fm_core.specs.declared.registry.tree.registry_call.RegistryCall.{RegistryCall}

not_none : (name : Text) → Some name ≡ None → ⊥
not_none name e = cc

module _ {M : Type 0} where
  -- a path on which no name is missing leads to a registry
  pub there_unless_missing : (t : Tree M) (path : Path) → missing_in t path ≡ None → IsSome (subtree_from (Some t) path)
  there_unless_missing t [] none = refl
  there_unless_missing t (name ∷ path) none =
      elim (find_child t.children name) as (λ o. missing_below name o (λ c. missing_in c path) ≡ None → IsSome (subtree_from o path))
      [ None ↦ λ is. absurd (not_none name is) | Some c ↦ λ is. there_unless_missing c path is ] none

  pub there_if_tested : (t : Tree M) (path : Path) → None ≡ missing_name (missing_in t path) → IsSome (subtree_from (Some t) path)
  there_if_tested t path none = there_unless_missing t path (by (missing_in t path) none)
    where
      by : (o : Option Text) → None ≡ missing_name o → o ≡ None
      by None is = refl
      by (Some name) is = absurd cc

  -- a name on a path that no subsystem has is the first that is missing, if none before it is
  pub missing_here : (t : Tree M) (names : List (String Global)) (i : ℕ) (name : String Global) (n : Text) → i < length names → name ≡ get_or names i name → n ≡ string_bytes name → find_child t.children n ≡ None
      → (found : Option Text) → missing_in t (seen_path (drop i names)) ≡ found → found ≡ Some (string_bytes name)
  missing_here t names i name n within is named none found left =
      sym left ∙ ap (λ xs. missing_in t (seen_path xs)) (drop-cons names i name within) ∙ ap (λ x. missing_in t (seen_path (x ∷ drop (suc i) names))) (sym is)
      ∙ ap (λ o. missing_below (string_bytes name) o (λ c. missing_in c (seen_path (drop (suc i) names)))) (ap (λ k. find_child t.children k) (sym named) ∙ none)

  -- the first subsystem on a path that leads to a registry, and what is below it
  pub first_there : (t : Tree M) (names rest : List (String Global)) (first : String Global) (n : Text) → names ≡ first ∷ rest → n ≡ string_bytes first
      → IsSome (subtree_from (Some t) (seen_path names)) → IsSome (find_child t.children n)
  first_there t names rest first n split named there =
      subst (λ k. IsSome (find_child t.children k)) (sym named)
      (by (find_child t.children (string_bytes first)) (subst (λ xs. IsSome (subtree_from (Some t) (seen_path xs))) split there))
    where
      by : (o : Option (Tree M)) → IsSome (subtree_from o (seen_path rest)) → IsSome o
      by None h = h
      by (Some c) h = refl

  pub rest_there : (t c : Tree M) (names rest : List (String Global)) (first : String Global) (n : Text) → names ≡ first ∷ rest → n ≡ string_bytes first → find_child t.children n ≡ Some c
      → IsSome (subtree_from (Some t) (seen_path names)) → IsSome (subtree_from (Some c) (seen_path rest))
  rest_there t c names rest first n split named found there =
      subst (λ o. IsSome (subtree_from o (seen_path rest))) (ap (λ k. find_child t.children k) (sym named) ∙ found)
      (subst (λ xs. IsSome (subtree_from (Some t) (seen_path xs))) split there)

  missed : (t : Tree M) (n name : Text) (call : Call M) (b : History M) → Reads t b → find_child t.children n ≡ None → Some n ≡ Some name → IsReply (Some (NoSuchSubsystem name)) b (in_front n call)
  missed t n name call b reads absent one =
      let same : n ≡ name = cc in
      let missing = missing-answer b n call (ap (λ ns. has_text ns n) (sym (reads_root t b reads).children) ∙ absent_from_find t.children n absent) in
      subst (λ k. IsReply (Some (NoSuchSubsystem k)) b (in_front n call)) same (record { returned = inr (sym missing); there = λ nothing. sym missing })

  -- A call that can be made at each path: in front of a path it is the call in front of that at the path.
  module _ (made : Path → Call M) (front : (name : Text) (path : Path) → made (name ∷ path) ≡ in_front name (made path)) where
    -- a name on the path that is missing
    pub missing_reply : (t : Tree M) (path : Path) (name : Text) → missing_in t path ≡ Some name → (b : History M) → Reads t b → IsReply (Some (NoSuchSubsystem name)) b (made path)
    missing_reply t [] name is b reads = absurd (not_none name (sym is))
    missing_reply t (n ∷ path) name is b reads =
        subst (λ k. IsReply (Some (NoSuchSubsystem name)) b k) (sym (front n path))
        (elim (find_child t.children n) as (λ o. find_child t.children n ≡ o → missing_below n o (λ c. missing_in c path) ≡ Some name → IsReply (Some (NoSuchSubsystem name)) b (in_front n (made path))) [
          | None ↦ λ absent one. missed t n name (made path) b reads absent one
          | Some c ↦ λ found one. down-reply t c n (made path) (Some (NoSuchSubsystem name)) found (missing_reply c path name one) b reads
        ] refl is)

    pub missing_refused : (t : Tree M) (path : Path) (why : Refusal) → Some why ≡ missing_name (missing_in t path) → (b : History M) → Reads t b → IsReply (Some why) b (made path)
    missing_refused t path why is b reads = by (missing_in t path) (λ name here. missing_reply t path name here b reads) refl is
      where
        by : (o : Option Text) → ((name : Text) → missing_in t path ≡ Some name → IsReply (Some (NoSuchSubsystem name)) b (made path)) → missing_in t path ≡ o → Some why ≡ missing_name o → IsReply (Some why) b (made path)
        by None reply here same = absurd cc
        by (Some name) reply here same =
            let which : NoSuchSubsystem name ≡ why = cc in
            subst (λ q. IsReply (Some q) b (made path)) which (reply name here)

    -- the end of the path
    pub here_reply : (t : Tree M) (names : List (String Global)) (got : Option Refusal) → length names ≡ 0 → ((b : History M) → Reads t b → IsReply got b (made [])) → (b : History M) → Reads t b → IsReply got b (made (seen_path names))
    here_reply t names got none said b reads = subst (λ xs. IsReply got b (made (seen_path xs))) (sym (nil_from_length names none)) (said b reads)

    pub here_ok : (t u : Tree M) (names : List (String Global)) (r : Result (Unit {0}) RegistryError) → length names ≡ 0 → OnOk r ((b : History M) → Reads t b → Reads u (after b (made [])))
        → OnOk r ((b : History M) → Reads t b → Reads u (after b (made (seen_path names))))
    here_ok t u names r none reads = subst (λ xs. OnOk r ((b : History M) → Reads t b → Reads u (after b (made (seen_path xs))))) (sym (nil_from_length names none)) reads

    -- a path that begins with a subsystem, which is stored under the name `m`
    module _ (t c w : Tree M) (names rest : List (String Global)) (first : String Global) (n m : Text) (split : names ≡ first ∷ rest) (named : n ≡ string_bytes first) (found : find_child t.children n ≡ Some c) (same : m ≡ n) where
      whole : made (seen_path names) ≡ in_front n (made (seen_path rest))
      whole = ap (λ xs. made (seen_path xs)) split ∙ ap (λ k. made (k ∷ seen_path rest)) (sym named) ∙ front n (seen_path rest)

      written : record { facts = t.facts; children = with_named t.children n m w } ≡ with_child t n w
      written = ap (λ k. record { facts = t.facts; children = with_named t.children n k w }) same

      pub below_reply : (got : Option Refusal) → ((b : History M) → Reads c b → IsReply got b (made (seen_path rest))) → (b : History M) → Reads t b → IsReply got b (made (seen_path names))
      below_reply got said b reads = subst (λ k. IsReply got b k) (sym whole) (down-reply t c n (made (seen_path rest)) got found said b reads)

      pub below_ok : (r : Result (Unit {0}) RegistryError) → ((b : History M) → Reads c b → IsReply (refusal_of r) b (made (seen_path rest))) → OnOk r ((b : History M) → Reads c b → Reads w (after b (made (seen_path rest))))
          → OnOk r ((b : History M) → Reads t b → Reads (record { facts = t.facts; children = with_named t.children n m w }) (after b (made (seen_path names))))
      below_ok r said reads =
          subst (λ k. OnOk r ((b : History M) → Reads t b → Reads (record { facts = t.facts; children = with_named t.children n m w }) (after b k))) (sym whole)
          (down-reads t (record { facts = t.facts; children = with_named t.children n m w }) c w n (made (seen_path rest)) r found written (λ b h. (said b h).returned) reads)

      pub below_err : (r : Result (Unit {0}) RegistryError) → OnErr r (w ≡ c) → OnErr r (record { facts = t.facts; children = with_named t.children n m w } ≡ t)
      below_err (Ok x) kept = tt
      below_err (Err e) kept = written ∙ ap (λ v. with_child t n v) kept ∙ ap (λ f. record { facts = t.facts; children = f }) (with_named-itself t.children n c found)

  -- at the end of a run there is a history
  Runs-sound : (b : History M) (calls : List (Call M)) (replies : List (Option Refusal)) (t : Tree M) → Runs b calls replies t → HasHistory t
  Runs-sound b [] [] t h = record { history = b; reads = h }
  Runs-sound b [] (q ∷ replies) t h = absurd h
  Runs-sound b (call ∷ calls) [] t h = absurd h
  Runs-sound b (call ∷ calls) (q ∷ replies) t h = Runs-sound (after_reply q b call) calls replies t h.1

  module _ (Types : M → MetricType → Type 0) where
    -- what a call does, by what its request did
    pub called : (g : RegistryCall M) (call made : Call M) (old new : Tree M) (r : Result (Unit {0}) RegistryError) → IsCall Types g call → made ≡ call
        → ((b : History M) → Reads old b → IsReply (refusal_of r) b made) → OnOk r ((b : History M) → Reads old b → Reads new (after b made)) → OnErr r (new ≡ old)
        → RunsCall Types g old new r
    called g call made old new r is same said reads unchanged = record {
      call = call;
      is = is;
      reply = subst (λ k. (b : History M) → Reads old b → IsReply (refusal_of r) b k) same said;
      ok = subst (λ k. OnOk r ((b : History M) → Reads old b → Reads new (after b k))) same reads;
      err = unchanged;
    }

    AreCalls-more : (gs : List (RegistryCall M)) (calls : List (Call M)) (g : RegistryCall M) (call : Call M) → AreCalls Types gs calls → IsCall Types g call → AreCalls Types (gs ++ g ∷ []) (calls ++ call ∷ [])
    AreCalls-more [] [] g call h is = (is, tt)
    AreCalls-more [] (k ∷ calls) g call h is = absurd h
    AreCalls-more (x ∷ gs) [] g call h is = absurd h
    AreCalls-more (x ∷ gs) (k ∷ calls) g call h is = (h.0, AreCalls-more gs calls g call h.1 is)

    -- no call
    pub RunsCalls-none : (t : Tree M) → RunsCalls Types [] t t []
    RunsCalls-none t = record { calls = []; are = tt; runs = λ b reads. reads }

    -- one call more
    pub RunsCalls-more : (gs : List (RegistryCall M)) (g : RegistryCall M) (s t u : Tree M) (olds news : List (Result (Unit {0}) RegistryError)) (r : Result (Unit {0}) RegistryError)
        → news ≡ olds ++ r ∷ [] → RunsCalls Types gs s t (map refusal_of olds) → RunsCall Types g t u r → RunsCalls Types (gs ++ g ∷ []) s u (map refusal_of news)
    RunsCalls-more gs g s t u olds news r new h one = record {
      calls = h.calls ++ one.call ∷ [];
      are = AreCalls-more gs h.calls g one.call h.are one.is;
      runs = λ b reads.
          subst (λ replies. Runs b (h.calls ++ one.call ∷ []) replies u) (sym (ap (map refusal_of) new ∙ map-append refusal_of olds (r ∷ [])))
          (Runs-more b h.calls (map refusal_of olds) one.call r t u one.reply one.ok one.err (h.runs b reads));
    }

    -- a registry that read a history reads one at the end
    pub RunsCalls-sound : (gs : List (RegistryCall M)) (s t : Tree M) (replies : List (Option Refusal)) → RunsCalls Types gs s t replies → HasHistory s → HasHistory t
    RunsCalls-sound gs s t replies h sound = Runs-sound sound.history h.calls replies t (h.runs sound.history sound.reads)

    -- and a longer one
    pub RunsCalls-grows : (gs : List (RegistryCall M)) (s t : Tree M) (replies : List (Option Refusal)) → RunsCalls Types gs s t replies → Grows s t
    RunsCalls-grows gs s t replies h = Grows-run s t h.calls replies h.runs
