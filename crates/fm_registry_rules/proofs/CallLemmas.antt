-- The reply to a call, and the history that the tree reads afterwards.
use Rattle.std.proofs.Common.{◌≡◌, ◌+◌, true, false, List, [], ◌∷◌, map, append-nil, Option, None, Some, Result, Ok, Err, OnOk, if◌then◌else◌, refl, sym, ap, subst, ◌∙◌, arith}
use Rattle.fm_registry_rules.specs.Texts.{Text, Path, Labels, has_text}
use Rattle.fm_registry_rules.specs.Registration.{Registration}
use Rattle.fm_registry_rules.specs.History.{Call, Subsystem, Register, History, children_at, with_more, in_front, history_below}
use Rattle.fm_registry_rules.specs.Tree.{Tree, Reads, ReadsFrom, find_child, names_in}
use Rattle.fm_registry_rules.specs.Steps.{with_subsystem, added_unless, with_child, with_named}
use Rattle.fm_registry_rules.specs.inside.Forests.{with_metric}
use Rattle.fm_registry_rules.specs.Loan.{LoanReads}
use Rattle.fm_registry_rules.specs.Answer.{Refusal, IsReturned, refusal_of, metric_refusal, asking_refusal, subsystem_refusal, answer, after, after_if, gained}
use Rattle.fm_registry_rules.specs.Running.{IsReply}
use Rattle.fm_registry_rules.specs.declared.error.RegistryError.{RegistryError}
use Rattle.fm_registry_rules.proofs.TreeLemmas.{reads-with_metric, reads-add_child, reads-with_child, ReadsRoot, reads_root, reads_below, has_found, absent_from_find}
use Rattle.fm_registry_rules.proofs.AnswerLemmas.{accepted, answer-in_front, gained-in_front, gained_below-empty, registered-gained, there_where_empty, subsystem_refusal-there}

module _ {M : Type 0} where
  -- a registration that is not refused
  pub reads-registered : (t : Tree M) (b : History M) (m : Registration M) → metric_refusal t.facts.metrics (names_in t.children) m ≡ None → Reads t b → Reads (with_metric t m) (after b (Register [] m))
  reads-registered t b m none r =
      let same : answer b (Register [] m) ≡ None = (λ i. metric_refusal (sym (reads_root t b r).metrics i) (sym (reads_root t b r).children i) m) ∙ none in
      subst (λ o. Reads (with_metric t m) (after_if o b (Register [] m))) (sym same) (reads-with_metric t b m same r)

  pub register-reads : (t u : Tree M) (m : Registration M) (r : Result (Unit {0}) RegistryError) → IsReturned (refusal_of r) (metric_refusal t.facts.metrics (names_in t.children) m) → OnOk r (u ≡ with_metric t m)
      → OnOk r ((b : History M) → Reads t b → Reads u (after b (Register [] m)))
  register-reads t u m (Ok x) said new = λ b reads. subst (λ v. Reads v (after b (Register [] m))) (sym new) (reads-registered t b m (accepted _ said) reads)
  register-reads t u m (Err e) said new = tt

  -- a subsystem that a call creates here
  pub reads-subsystem : (t : Tree M) (b : History M) (n : Text) (labels : Labels) → subsystem_refusal t.facts.depth t.facts.metrics (names_in t.children) n labels ≡ None → Reads t b → Reads (with_subsystem t n labels) (after b (Subsystem [] n labels))
  reads-subsystem t b n labels none r =
      let root = reads_root t b r in
      let depths : b.depth + 0 ≡ t.facts.depth = omega (arith, root.depth) in
      let same : answer b (Subsystem [] n labels) ≡ None = (λ i. subsystem_refusal (depths i) (sym root.metrics i) (sym root.children i) n labels) ∙ none in
      subst (λ o. Reads (with_subsystem t n labels) (after_if o b (Subsystem [] n labels))) (sym same) (by (find_child t.children n) refl same root)
    where
      by : (o : Option (Tree M)) → find_child t.children n ≡ o → answer b (Subsystem [] n labels) ≡ None → ReadsRoot t b → Reads (added_unless o t n labels) (with_more b (gained b (Subsystem [] n labels)))
      by None e same root =
          let absent : has_text (children_at b.calls []) n ≡ false = ap (λ ns. has_text ns n) (sym root.children) ∙ absent_from_find t.children n e in
          subst (λ d. Reads (added_unless None t n labels) (with_more b (if◌then◌else◌ {A = List (Call M)} d [] (Subsystem [] n labels ∷ [])))) (sym absent) (reads-add_child t b n labels same r e)
      by (Some c) e same root =
          let there : has_text (children_at b.calls []) n ≡ true = ap (λ ns. has_text ns n) (sym root.children) ∙ has_found t.children n c e in
          subst (λ d. Reads (added_unless (Some c) t n labels) (with_more b (if◌then◌else◌ {A = List (Call M)} d [] (Subsystem [] n labels ∷ [])))) (sym there)
          (subst (λ cs. Reads t (record b { calls = cs })) (sym (append-nil b.calls)) r)

  pub subsystem-reply : (t : Tree M) (n : Text) (labels : Labels) (got : Option Refusal) → IsReturned got (subsystem_refusal t.facts.depth t.facts.metrics (names_in t.children) n labels)
      → (has_text (names_in t.children) n ≡ true → got ≡ asking_refusal t.facts.depth n labels) → (b : History M) → Reads t b → IsReply got b (Subsystem [] n labels)
  subsystem-reply t n labels got said exact b r =
      let root = reads_root t b r in
      let depths : t.facts.depth ≡ b.depth + 0 = omega (arith, root.depth) in
      let same : subsystem_refusal t.facts.depth t.facts.metrics (names_in t.children) n labels ≡ answer b (Subsystem [] n labels) = λ i. subsystem_refusal (depths i) (root.metrics i) (root.children i) n labels in
      record {
        returned = subst (λ o. IsReturned got o) same said;
        there = λ none.
            let there : has_text (names_in t.children) n ≡ true = ap (λ ns. has_text ns n) root.children ∙ there_where_empty b [] n labels none in
            exact there ∙ sym (subsystem_refusal-there t.facts.depth t.facts.metrics (names_in t.children) n labels there) ∙ same;
      }

  -- a registration, which adds itself
  pub registered-reply : (b : History M) (p : Path) (m : Registration M) (got : Option Refusal) → IsReturned got (answer b (Register p m)) → IsReply got b (Register p m)
  registered-reply b p m got said = record { returned = said; there = λ none. absurd (registered-gained b p m none) }

  pub subsystem-reads : (t u : Tree M) (n : Text) (labels : Labels) (r : Result (Unit {0}) RegistryError) → IsReturned (refusal_of r) (subsystem_refusal t.facts.depth t.facts.metrics (names_in t.children) n labels) → OnOk r (u ≡ with_subsystem t n labels)
      → OnOk r ((b : History M) → Reads t b → Reads u (after b (Subsystem [] n labels)))
  subsystem-reads t u n labels (Ok x) said new = λ b reads. subst (λ v. Reads v (after b (Subsystem [] n labels))) (sym new) (reads-subsystem t b n labels (accepted _ said) reads)
  subsystem-reads t u n labels (Err e) said new = tt

  -- a call below a subsystem
  pub down-reads : (t u c w : Tree M) (n : Text) (call : Call M) (r : Result (Unit {0}) RegistryError) → find_child t.children n ≡ Some c → u ≡ with_child t n w
      → ((b : History M) → Reads c b → IsReturned (refusal_of r) (answer b call)) → OnOk r ((b : History M) → Reads c b → Reads w (after b call))
      → OnOk r ((b : History M) → Reads t b → Reads u (after b (in_front n call)))
  down-reads t u c w n call (Err e) there new said reads = tt
  down-reads t u c w n call (Ok x) there new said reads = λ b reads_t.
      let child : Reads c (history_below b n) = subst (λ o. ReadsFrom o (history_below b n)) there (reads_below t b reads_t n) in
      let none : answer (history_below b n) call ≡ None = accepted _ (said (history_below b n) child) in
      let named : has_text (children_at b.calls []) n ≡ true = ap (λ ns. has_text ns n) (sym (reads_root t b reads_t).children) ∙ has_found t.children n c there in
      let below : Reads w (with_more (history_below b n) (gained (history_below b n) call)) = subst (λ o. Reads w (after_if o (history_below b n) call)) none (reads (history_below b n) child) in
      let above : Reads (with_child t n w) (with_more b (map (in_front n) (gained (history_below b n) call))) = reads-with_child t b n c w (gained (history_below b n) call) reads_t there below in
      subst (λ o. Reads u (after_if o b (in_front n call))) (sym (answer-in_front b n call named ∙ none))
      (subst (λ v. Reads v (with_more b (gained b (in_front n call)))) (sym new)
      (subst (λ cs. Reads (with_child t n w) (with_more b cs)) (sym (gained-in_front b n call)) above))

  pub down-reply : (t c : Tree M) (n : Text) (call : Call M) (got : Option Refusal) → find_child t.children n ≡ Some c
      → ((b : History M) → Reads c b → IsReply got b call) → (b : History M) → Reads t b → IsReply got b (in_front n call)
  down-reply t c n call got there said b reads_t =
      let child : Reads c (history_below b n) = subst (λ o. ReadsFrom o (history_below b n)) there (reads_below t b reads_t n) in
      let named : has_text (children_at b.calls []) n ≡ true = ap (λ ns. has_text ns n) (sym (reads_root t b reads_t).children) ∙ has_found t.children n c there in
      let reply = said (history_below b n) child in
      record {
        returned = subst (λ o. IsReturned got o) (sym (answer-in_front b n call named)) reply.returned;
        there = λ none. reply.there (gained_below-empty b n call none) ∙ sym (answer-in_front b n call named);
      }

  -- the borrow of a subsystem that a call created here
  pub subsystem-loan : (t c : Tree M) (n : Text) (labels : Labels) → IsReturned None (subsystem_refusal t.facts.depth t.facts.metrics (names_in t.children) n labels) → find_child (with_subsystem t n labels).children n ≡ Some c
      → (b : History M) → Reads t b → LoanReads (with_subsystem t n labels) n c (after b (Subsystem [] n labels))
  subsystem-loan t c n labels said there b reads =
      let asked : Reads (with_subsystem t n labels) (after b (Subsystem [] n labels)) = reads-subsystem t b n labels (accepted _ said) reads in
      record {
        whole = asked;
        lent = subst (λ o. ReadsFrom o (history_below (after b (Subsystem [] n labels)) n)) there (reads_below _ _ asked n);
        back = λ w more h. reads-with_child (with_subsystem t n labels) (after b (Subsystem [] n labels)) n c w more asked there h;
      }

module _ {M : Type 0} where
  -- a borrow that ends as it began leaves what the call created
  pub loan-unused : (t c u : Tree M) (n m : Text) (b : History M) → LoanReads t n c b → m ≡ n → u ≡ record t { children = with_named t.children n m c } → Reads u b
  loan-unused t c u n m b loan same ends =
      subst (λ v. Reads v b) (sym (ends ∙ ap (λ k. record t { children = with_named t.children n k c }) same))
      (subst (λ cs. Reads (with_child t n c) (record b { calls = cs })) (append-nil b.calls)
      (loan.back c [] (subst (λ cs. Reads c (record (history_below b n) { calls = cs })) (sym (append-nil (history_below b n).calls)) loan.lent)))
