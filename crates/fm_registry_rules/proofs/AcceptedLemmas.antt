-- Histories of accepted calls: after a call, below a subsystem, and with what a subsystem's history gained.
use Rattle.std.proofs.Common.{◌≡◌, ◌+◌, ◌≤◌, Bool, true, false, List, [], ◌∷◌, ◌++◌, map, length, Option, None, Some, IfSome, inl, inr, if◌then◌else◌, nat_le, refl, sym, ap, subst, ◌∙◌, append_assoc, append-nil, true≢false, ◌&&◌, arith}
use Rattle.std.proofs.lemmas.Bool.Decides.{nat_tests}
use Rattle.std.specs.Str.{bytes_eq}
use Rattle.fm_grammar.specs.Names.{IsSnakeCase}
use Rattle.fm_grammar.specs.WellFormed.{AreLabels}
use Rattle.fm_registry_rules.specs.Texts.{Text, Path, Labels, path_eq, has_text, prefixed_name}
use Rattle.fm_registry_rules.specs.inside.Once.{is_once}
use Rattle.fm_registry_rules.specs.History.{Call, Subsystem, Register, History, root_history, metrics_at, children_at, labels_given, with_more, in_front, calls_below, history_below}
use Rattle.fm_registry_rules.specs.Answer.{NoSuchSubsystem, first_bad_label, name_or_depth_refusal, answer, gained, after, after_if}
use Rattle.fm_registry_rules.specs.Accepted.{IsAccepted, AreAccepted, IsHistory}
use Rattle.fm_registry_rules.proofs.TextLemmas.{bytes_eq-refl, same_text, same_path, is_once-push}
use Rattle.fm_raw.proofs.NameLemmas.{snake_case_is, snake_case_joined}
use Rattle.fm_registry_rules.proofs.LabelLemmas.{AreLabels-merge_labels, first_bad_label-++}
use Rattle.fm_registry_rules.proofs.HistoryLemmas.{children_at-++, calls_below-++}
use Rattle.fm_registry_rules.proofs.AnswerLemmas.{subsystem_passed, asked_passed, name_allowed, labels_allowed, answer-in_front, gained-in_front, missing-answer, gained_cases}

module _ {M : Type 0} where
  nil_not_cons : {call : Call M} → [] ≡ call ∷ [] → ⊥
  nil_not_cons e = cc

  -- calls in turn, and further ones
  pub AreAccepted-++ : (b : History M) (xs ys : List (Call M)) → AreAccepted b xs → AreAccepted (with_more b xs) ys → AreAccepted b (xs ++ ys)
  AreAccepted-++ b [] ys h k = subst (λ cs. AreAccepted (record b { calls = cs }) ys) (append-nil b.calls) k
  AreAccepted-++ b (x ∷ xs) ys h k =
      (h.0, AreAccepted-++ (with_more b (x ∷ [])) xs ys h.1 (subst (λ cs. AreAccepted (record b { calls = cs }) ys) (sym (append_assoc b.calls (x ∷ []) xs)) k))

  pub AreAccepted-later : (b : History M) (xs ys : List (Call M)) → AreAccepted b (xs ++ ys) → AreAccepted (with_more b xs) ys
  AreAccepted-later b [] ys h = subst (λ cs. AreAccepted (record b { calls = cs }) ys) (sym (append-nil b.calls)) h
  AreAccepted-later b (x ∷ xs) ys h = subst (λ cs. AreAccepted (record b { calls = cs }) ys) (append_assoc b.calls (x ∷ []) xs) (AreAccepted-later (with_more b (x ∷ [])) xs ys h.1)

  -- a valid root with no calls is a history
  pub IsHistory-root_history : (namespace : Option Text) (labels : Labels) → IfSome namespace IsSnakeCase → AreLabels labels → IsHistory {M = M} (root_history namespace labels)
  IsHistory-root_history namespace labels valid are = record { root = record { namespace = valid; labels = are; depth = omega arith }; accepted = tt }

  pub IsHistory-empty : IsHistory {M = M} (root_history None [])
  IsHistory-empty = IsHistory-root_history None [] tt (record { names = tt; different = tt })

  -- calls that a history accepts in turn make it a longer history
  pub IsHistory-with_more : (b : History M) (more : List (Call M)) → IsHistory b → AreAccepted b more → IsHistory (with_more b more)
  IsHistory-with_more b more h k = record {
    root = record { namespace = h.root.namespace; labels = h.root.labels; depth = h.root.depth };
    accepted = AreAccepted-++ (record b { calls = [] }) b.calls more h.accepted k;
  }

  -- a call that is not refused
  pub IsHistory-gained : (b : History M) (call : Call M) → IsHistory b → answer b call ≡ None → IsHistory (with_more b (gained b call))
  IsHistory-gained b call h none =
      elim (gained_cases b call) [
        | inl e ↦ subst (λ cs. IsHistory (with_more b cs)) (sym e) (subst (λ cs. IsHistory (record b { calls = cs })) (sym (append-nil b.calls)) h)
        | inr e ↦ subst (λ cs. IsHistory (with_more b cs)) (sym e) (IsHistory-with_more b (call ∷ []) h (record { answer = none; new = e }, tt))
      ]

  -- a history stays one with each call
  pub IsHistory-after : (b : History M) (call : Call M) → IsHistory b → IsHistory (after b call)
  IsHistory-after b call h =
      elim (answer b call) as (λ o. answer b call ≡ o → IsHistory (after_if o b call))
      [ None ↦ λ e. IsHistory-gained b call h e | Some r ↦ λ e. h ] refl

  -- whether a call is accepted is a matter of depth and calls
  IsAccepted-same : (b d : History M) (call : Call M) → b.depth ≡ d.depth → b.calls ≡ d.calls → IsAccepted b call → IsAccepted d call
  IsAccepted-same b d call depth calls h = record {
    answer = (λ i. answer (record { namespace = d.namespace; labels = d.labels; depth = sym depth i; calls = sym calls i }) call) ∙ h.answer;
    new = (λ i. gained (record { namespace = d.namespace; labels = d.labels; depth = d.depth; calls = sym calls i }) call) ∙ h.new;
  }

  -- a call below a subsystem is accepted if the subsystem is there
  there_from : (b : History M) (n : Text) (call : Call M) → answer b (in_front n call) ≡ None → has_text (children_at b.calls []) n ≡ true
  there_from b n call h = by (has_text (children_at b.calls []) n) refl
    where
      some_not_none : Some (NoSuchSubsystem n) ≡ None → ⊥
      some_not_none e = cc

      by : (c : Bool) → has_text (children_at b.calls []) n ≡ c → has_text (children_at b.calls []) n ≡ true
      by true e = e
      by false e = absurd (some_not_none (sym (missing-answer b n call e) ∙ h))

  pub IsAccepted-below : (b : History M) (n : Text) (call : Call M) → IsAccepted b (in_front n call) → IsAccepted (history_below b n) call
  IsAccepted-below b n call h = record {
    answer = sym (answer-in_front b n call (there_from b n call h.answer)) ∙ h.answer;
    new = elim (gained_cases (history_below b n) call) [
      | inl e ↦ absurd (nil_not_cons (sym (gained-in_front b n call ∙ ap (map (in_front n)) e) ∙ h.new))
      | inr e ↦ e
    ];
  }

  pub IsAccepted-above : (b : History M) (n : Text) (call : Call M) → has_text (children_at b.calls []) n ≡ true → IsAccepted (history_below b n) call → IsAccepted b (in_front n call)
  IsAccepted-above b n call there h = record {
    answer = answer-in_front b n call there ∙ h.answer;
    new = gained-in_front b n call ∙ ap (map (in_front n)) h.new;
  }

  -- one call with a name in front, seen from below
  calls_below-front : (k n : Text) (call : Call M) → bytes_eq k n ≡ true → calls_below (in_front k call ∷ []) n ≡ call ∷ []
  calls_below-front k n (Subsystem q m labels) e = rw e refl
  calls_below-front k n (Register q r) e = rw e refl

  calls_below-other : (k n : Text) (call : Call M) → bytes_eq k n ≡ false → calls_below (in_front k call ∷ []) n ≡ []
  calls_below-other k n (Subsystem q m labels) e = rw e refl
  calls_below-other k n (Register q r) e = rw e refl

  children_at-front : (n : Text) (call : Call M) → children_at (in_front n call ∷ []) [] ≡ []
  children_at-front n (Subsystem q m labels) = refl
  children_at-front n (Register q r) = refl

  -- a call with a name in front, and the calls that follow it
  below_front : (k n : Text) (call : Call M) (calls : List (Call M)) (b d : History M) → d.depth ≡ b.depth + 1 → d.calls ≡ calls_below b.calls n → IsAccepted b (in_front k call)
      → ((e : History M) → e.depth ≡ b.depth + 1 → e.calls ≡ calls_below (b.calls ++ in_front k call ∷ []) n → AreAccepted e (calls_below calls n))
      → AreAccepted d (if bytes_eq k n then call ∷ calls_below calls n else calls_below calls n)
  below_front k n call calls b d depth same h rest =
      elim (bytes_eq k n) as (λ c. bytes_eq k n ≡ c → AreAccepted d (if c then call ∷ calls_below calls n else calls_below calls n)) [
        | true ↦ λ e. (
          IsAccepted-same (history_below b n) d call (sym depth) (sym same) (IsAccepted-below b n call (subst (λ j. IsAccepted b (in_front j call)) (same_text k n e) h)),
          rest (with_more d (call ∷ [])) depth (ap (λ cs. cs ++ call ∷ []) same ∙ sym (calls_below-++ b.calls (in_front k call ∷ []) n ∙ ap (λ cs. calls_below b.calls n ++ cs) (calls_below-front k n call e))),
        )
        | false ↦ λ e.
            rest d depth (same ∙ sym (calls_below-++ b.calls (in_front k call ∷ []) n ∙ ap (λ cs. calls_below b.calls n ++ cs) (calls_below-other k n call e) ∙ append-nil (calls_below b.calls n)))
      ] refl

  -- the calls below a subsystem were accepted in turn by its own history
  pub AreAccepted-below : (calls : List (Call M)) (b d : History M) (n : Text) → d.depth ≡ b.depth + 1 → d.calls ≡ calls_below b.calls n → AreAccepted b calls → AreAccepted d (calls_below calls n)
  AreAccepted-below [] b d n depth same h = tt
  AreAccepted-below (Subsystem [] m labels ∷ calls) b d n depth same h =
      AreAccepted-below calls (with_more b (Subsystem [] m labels ∷ [])) d n depth (same ∙ sym (calls_below-++ b.calls (Subsystem [] m labels ∷ []) n ∙ append-nil (calls_below b.calls n))) h.1
  AreAccepted-below (Register [] r ∷ calls) b d n depth same h =
      AreAccepted-below calls (with_more b (Register [] r ∷ [])) d n depth (same ∙ sym (calls_below-++ b.calls (Register [] r ∷ []) n ∙ append-nil (calls_below b.calls n))) h.1
  AreAccepted-below (Subsystem (k ∷ q) m labels ∷ calls) b d n depth same h =
      below_front k n (Subsystem q m labels) calls b d depth same h.0 (λ e deeper below. AreAccepted-below calls (with_more b (Subsystem (k ∷ q) m labels ∷ [])) e n deeper below h.1)
  AreAccepted-below (Register (k ∷ q) r ∷ calls) b d n depth same h =
      below_front k n (Register q r) calls b d depth same h.0 (λ e deeper below. AreAccepted-below calls (with_more b (Register (k ∷ q) r ∷ [])) e n deeper below h.1)

  -- and the other way
  pub AreAccepted-above : (more : List (Call M)) (b d : History M) (n : Text) → d.depth ≡ b.depth + 1 → d.calls ≡ calls_below b.calls n → has_text (children_at b.calls []) n ≡ true → AreAccepted d more → AreAccepted b (map (in_front n) more)
  AreAccepted-above [] b d n depth same there h = tt
  AreAccepted-above (call ∷ more) b d n depth same there h = (
    IsAccepted-above b n call there (IsAccepted-same d (history_below b n) call depth same h.0),
    AreAccepted-above more (with_more b (in_front n call ∷ [])) (with_more d (call ∷ [])) n depth
        (ap (λ cs. cs ++ call ∷ []) same ∙ sym (calls_below-++ b.calls (in_front n call ∷ []) n ∙ ap (λ cs. calls_below b.calls n ++ cs) (calls_below-front n n call (bytes_eq-refl n))))
        (ap (λ ns. has_text ns n) (children_at-++ b.calls (in_front n call ∷ []) [] ∙ ap (λ ns. children_at b.calls [] ++ ns) (children_at-front n call) ∙ append-nil (children_at b.calls [])) ∙ there)
        h.1,
  )

  -- what a subsystem's history gained, with the name in front, makes a longer history
  pub IsHistory-in_front : (b : History M) (n : Text) (more : List (Call M)) → IsHistory b → has_text (children_at b.calls []) n ≡ true → IsHistory (with_more (history_below b n) more) → IsHistory (with_more b (map (in_front n) more))
  IsHistory-in_front b n more h there k =
      IsHistory-with_more b (map (in_front n) more) h
      (AreAccepted-above more b (history_below b n) n refl refl there (AreAccepted-later (record (history_below b n) { calls = [] }) (calls_below b.calls n) more k.accepted))

  -- a subsystem that was accepted has a valid name, and its registry is not too deep
  pub name_accepted : (calls : List (Call M)) (b : History M) (p : Path) (n : Text) → AreAccepted b calls → has_text (children_at calls p) n ≡ true → name_or_depth_refusal (b.depth + length p) n ≡ None
  name_accepted [] b p n h there = absurd (true≢false (sym there))
  name_accepted (Register q r ∷ calls) b p n h there = name_accepted calls (with_more b (Register q r ∷ [])) p n h.1 there
  name_accepted (Subsystem q m labels ∷ calls) b p n h there =
      elim (path_eq q p) as (λ c. path_eq q p ≡ c → has_text (if c then m ∷ children_at calls p else children_at calls p) n ≡ true → name_or_depth_refusal (b.depth + length p) n ≡ None) [
        | true ↦ λ e g.
            (elim (bytes_eq m n) as (λ c. bytes_eq m n ≡ c → (if c then true else has_text (children_at calls p) n) ≡ true → name_or_depth_refusal (b.depth + length p) n ≡ None) [
              | true ↦ λ f k. sym (λ i. name_or_depth_refusal (b.depth + length (same_path q p e i)) (same_text m n f i)) ∙ name_allowed (b.depth + length q) (metrics_at b.calls q) (children_at b.calls q) m labels (asked_passed b q m labels h.0.answer)
              | false ↦ λ f k. name_accepted calls (with_more b (Subsystem q m labels ∷ [])) p n h.1 k
            ]) refl g
        | false ↦ λ e g. name_accepted calls (with_more b (Subsystem q m labels ∷ [])) p n h.1 g
      ] refl there

  -- and valid labels
  pub labels_accepted : (calls : List (Call M)) (b : History M) (p : Path) (n : Text) → AreAccepted b calls → first_bad_label (labels_given calls p n) ≡ None
  labels_accepted [] b p n h = refl
  labels_accepted (Register q r ∷ calls) b p n h = labels_accepted calls (with_more b (Register q r ∷ [])) p n h.1
  labels_accepted (Subsystem q m labels ∷ calls) b p n h =
      let rest = labels_accepted calls (with_more b (Subsystem q m labels ∷ [])) p n h.1 in
      elim (path_eq q p && bytes_eq m n) as (λ c. first_bad_label (if c then labels ++ labels_given calls p n else labels_given calls p n) ≡ None)
      [ true ↦ first_bad_label-++ labels (labels_given calls p n) (labels_allowed (b.depth + length q) (metrics_at b.calls q) (children_at b.calls q) m labels (asked_passed b q m labels h.0.answer)) rest | false ↦ rest ]

  -- a subsystem's history
  pub IsHistory-below : (b : History M) (n : Text) → IsHistory b → has_text (children_at b.calls []) n ≡ true → IsHistory (history_below b n)
  IsHistory-below b n h there =
      let passed = subsystem_passed (b.depth + length {A = Text} []) n (name_accepted b.calls (record b { calls = [] }) [] n h.accepted there) in
      let shallow : nat_le 64 (b.depth + 0) ≡ false = passed.1 in
      let depth : b.depth + 1 ≤ 64 = grind (arith, nat_tests, shallow) in
      record {
        root = record {
          namespace = joined b.namespace h.root.namespace (snake_case_is n passed.0);
          labels = AreLabels-merge_labels b.labels (labels_given b.calls [] n) h.root.labels (labels_accepted b.calls (record b { calls = [] }) [] n h.accepted);
          depth = depth;
        };
        accepted = AreAccepted-below b.calls (record b { calls = [] }) (record (history_below b n) { calls = [] }) n refl refl h.accepted;
      }
    where
      joined : (o : Option Text) → IfSome o IsSnakeCase → IsSnakeCase n → IsSnakeCase (prefixed_name o n)
      joined None outer own = own
      joined (Some namespace) outer own = snake_case_joined namespace n outer own

  -- one call more names no subsystem twice
  once_step : (b : History M) (call : Call M) (p : Path) → IsAccepted b call → is_once (children_at b.calls p) ≡ true → is_once (children_at (b.calls ++ call ∷ []) p) ≡ true
  once_step b (Register q r) p h once = ap is_once (children_at-++ b.calls (Register q r ∷ []) p ∙ append-nil (children_at b.calls p)) ∙ once
  once_step b (Subsystem q m labels) p h once =
      ap is_once (children_at-++ b.calls (Subsystem q m labels ∷ []) p)
      ∙ elim (path_eq q p) as (λ c. path_eq q p ≡ c → is_once (children_at b.calls p ++ (if c then m ∷ [] else [])) ≡ true) [
        | true ↦ λ e. is_once-push (children_at b.calls p) m once (ap (λ k. has_text (children_at b.calls k) m) (sym (same_path q p e)) ∙ absent (has_text (children_at b.calls q) m) h.new)
        | false ↦ λ e. ap is_once (append-nil (children_at b.calls p)) ∙ once
      ] refl
    where
      absent : (c : Bool) → if◌then◌else◌ {A = List (Call M)} c [] (Subsystem q m labels ∷ []) ≡ Subsystem q m labels ∷ [] → c ≡ false
      absent true e = absurd (nil_not_cons e)
      absent false e = refl

  once_along : (calls : List (Call M)) (b : History M) (p : Path) → AreAccepted b calls → is_once (children_at b.calls p) ≡ true → is_once (children_at (b.calls ++ calls) p) ≡ true
  once_along [] b p h once = ap (λ cs. is_once (children_at cs p)) (append-nil b.calls) ∙ once
  once_along (call ∷ calls) b p h once =
      ap (λ cs. is_once (children_at cs p)) (sym (append_assoc b.calls (call ∷ []) calls))
      ∙ once_along calls (with_more b (call ∷ [])) p h.1 (once_step b call p h.0 once)

  -- no name comes twice at a path of a history
  pub is_once-children : (b : History M) (p : Path) → IsHistory b → is_once (children_at b.calls p) ≡ true
  is_once-children b p h = once_along b.calls (record b { calls = [] }) p h.accepted refl
