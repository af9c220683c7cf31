-- The histories of a registry grow with each call.
use Rattle.std.proofs.Common.{◌≡◌, List, [], ◌∷◌, ◌++◌, map, Option, None, Some, Result, Ok, Err, OnOk, OnErr, refl, sym, ap, subst, append-nil, append_assoc, ◌∙◌}
use Rattle.fm_registry_rules.specs.Texts.{Text, Labels}
use Rattle.fm_registry_rules.specs.History.{Call, History, Subsystem, with_more, in_front, history_below}
use Rattle.fm_registry_rules.specs.Answer.{Refusal, answer, gained, after, after_if}
use Rattle.fm_registry_rules.specs.Tree.{Tree, Reads}
use Rattle.fm_registry_rules.specs.Steps.{with_named, with_child, with_subsystem}
use Rattle.fm_registry_rules.specs.Loan.{LoanReads}
use Rattle.fm_registry_rules.specs.Running.{Runs}
use Rattle.fm_registry_rules.specs.declared.error.RegistryError.{RegistryError}
use Rattle.fm_core.specs.HasHistory.{HasHistory, Grows}

module _ {M : Type 0} where
  -- a history with more calls after it, twice
  with_more-twice : (b : History M) (xs ys : List (Call M)) → with_more (with_more b xs) ys ≡ with_more b (xs ++ ys)
  with_more-twice b xs ys = ap (λ calls. record b { calls = calls }) (append_assoc b.calls xs ys)

  with_more-none : (b : History M) → with_more b [] ≡ b
  with_more-none b = ap (λ calls. record b { calls = calls }) (append-nil b.calls)

  -- what a reply adds to a history
  abbrev pub added : Option Refusal → History M → Call M → List (Call M)
  added None b call = gained b call
  added (Some why) b call = []

  after_if-added : (o : Option Refusal) (b : History M) (call : Call M) → after_if o b call ≡ with_more b (added o b call)
  after_if-added None b call = refl
  after_if-added (Some why) b call = sym (with_more-none b)

  pub after-added : (b : History M) (call : Call M) → after b call ≡ with_more b (added (answer b call) b call)
  after-added b call = after_if-added (answer b call) b call

  -- a registry that has a history has one later
  pub Grows-sound : (s t : Tree M) → Grows s t → HasHistory s → HasHistory t
  Grows-sound s t g sound = record { history = with_more sound.history (g.calls sound.history sound.reads); reads = g.reads sound.history sound.reads }

  -- nothing is done
  pub Grows-same : (s t : Tree M) → t ≡ s → Grows s t
  Grows-same s t same = record { calls = λ b reads. []; reads = λ b reads. subst (λ d. Reads t d) (sym (with_more-none b)) (subst (λ u. Reads u b) (sym same) reads) }

  -- one thing after another
  pub Grows-then : (s t u : Tree M) → Grows s t → Grows t u → Grows s u
  Grows-then s t u g h = record {
    calls = λ b reads. g.calls b reads ++ h.calls (with_more b (g.calls b reads)) (g.reads b reads);
    reads = λ b reads.
        subst (λ d. Reads u d) (with_more-twice b (g.calls b reads) (h.calls (with_more b (g.calls b reads)) (g.reads b reads)))
        (h.reads (with_more b (g.calls b reads)) (g.reads b reads));
  }

  -- one call
  pub Grows-call : (s t : Tree M) (call : Call M) → ((b : History M) → Reads s b → Reads t (after b call)) → Grows s t
  Grows-call s t call reads = record {
    calls = λ b h. added (answer b call) b call;
    reads = λ b h. subst (λ d. Reads t d) (after-added b call) (reads b h);
  }

  pub Grows-returned : (s t : Tree M) (call : Call M) (r : Result (Unit {0}) RegistryError) → OnOk r ((b : History M) → Reads s b → Reads t (after b call)) → OnErr r (t ≡ s) → Grows s t
  Grows-returned s t call (Ok x) reads same = Grows-call s t call reads
  Grows-returned s t call (Err e) reads same = Grows-same s t same

  -- calls in turn
  abbrev pub run_calls : History M → List (Call M) → List (Option Refusal) → List (Call M)
  run_calls b [] replies = []
  run_calls b (call ∷ calls) [] = []
  run_calls b (call ∷ calls) (None ∷ replies) = added (answer b call) b call ++ run_calls (after b call) calls replies
  run_calls b (call ∷ calls) (Some why ∷ replies) = run_calls b calls replies

  Runs-calls : (b : History M) (calls : List (Call M)) (replies : List (Option Refusal)) (t : Tree M) → Runs b calls replies t → Reads t (with_more b (run_calls b calls replies))
  Runs-calls b [] [] t h = subst (λ d. Reads t d) (sym (with_more-none b)) h
  Runs-calls b [] (q ∷ replies) t h = absurd h
  Runs-calls b (call ∷ calls) [] t h = absurd h
  Runs-calls b (call ∷ calls) (None ∷ replies) t h =
      subst (λ d. Reads t d) (ap (λ d. with_more d (run_calls (after b call) calls replies)) (after-added b call) ∙ with_more-twice b (added (answer b call) b call) (run_calls (after b call) calls replies))
      (Runs-calls (after b call) calls replies t h.1)
  Runs-calls b (call ∷ calls) (Some why ∷ replies) t h = Runs-calls b calls replies t h.1

  pub Grows-run : (s t : Tree M) (calls : List (Call M)) (replies : List (Option Refusal)) → ((b : History M) → Reads s b → Runs b calls replies t) → Grows s t
  Grows-run s t calls replies runs = record { calls = λ b reads. run_calls b calls replies; reads = λ b reads. Runs-calls b calls replies t (runs b reads) }

  -- What is done to a borrowed subsystem is done to the registry: if the subsystem grows while it is borrowed, so does
  -- the registry.
  pub Grows-lent : (s : Tree M) (name : Text) (labels : Labels) (child w t : Tree M) (stored : Text)
      → ((b : History M) → Reads s b → LoanReads (with_subsystem s name labels) name child (after b (Subsystem [] name labels)))
      → stored ≡ name → t ≡ record (with_subsystem s name labels) { children = with_named (with_subsystem s name labels).children name stored w } → Grows child w → Grows s t
  Grows-lent s name labels child w t stored loan same ends g =
      let put : t ≡ with_child (with_subsystem s name labels) name w =
      ends ∙ ap (λ k. record (with_subsystem s name labels) { children = with_named (with_subsystem s name labels).children name k w }) same in
      let asked : History M → List (Call M) = λ b. added (answer b (Subsystem [] name labels)) b (Subsystem [] name labels) in
      let later : History M → History M = λ b. after b (Subsystem [] name labels) in
      record {
        calls = λ b reads. asked b ++ map (in_front name) (g.calls (history_below (later b) name) (loan b reads).lent);
        reads = λ b reads.
            let more = g.calls (history_below (later b) name) (loan b reads).lent in
            subst (λ u. Reads u (with_more b (asked b ++ map (in_front name) more))) (sym put)
            (subst (λ d. Reads (with_child (with_subsystem s name labels) name w) d) (ap (λ d. with_more d (map (in_front name) more)) (after-added b (Subsystem [] name labels)) ∙ with_more-twice b (asked b) (map (in_front name) more))
            ((loan b reads).back w more (g.reads (history_below (later b) name) (loan b reads).lent)));
      }
