-- How the steps of a tree follow the calls of its history.
use Rattle.std.proofs.Common.{◌≡◌, ◌+◌, true, false, ◌&&◌, List, [], ◌∷◌, ◌++◌, map, Option, None, Some, IfSome, length, if◌then◌else◌, refl, sym, ap, subst, ◌∙◌, append-nil, true≢false, arith}
use Rattle.std.specs.Str.{bytes_eq}
use Rattle.fm_registry_rules.specs.Texts.{Text, Path, Labels, path_eq, has_text, merge_labels, join_name}
use Rattle.fm_registry_rules.specs.Registration.{Registration}
use Rattle.fm_registry_rules.specs.History.{Call, Subsystem, Register, History, metrics_at, children_at, labels_given, labels_at, namespace_at, with_more, in_front, calls_below, history_below}
use Rattle.fm_registry_rules.specs.Tree.{Facts, Forest, Leaf, Child, Tree, names_in, find_child, subtree_from, metrics_of, children_of, ShowsFrom, Shows, ReadsFrom, Reads}
use Rattle.fm_registry_rules.specs.inside.Forests.{subtree_at, with_metric}
use Rattle.fm_registry_rules.specs.Steps.{new_facts, add_child, with_named, with_child}
use Rattle.fm_registry_rules.specs.Answer.{answer, gained}
use Rattle.fm_registry_rules.specs.Accepted.{IsHistory}
use Rattle.fm_registry_rules.proofs.TextLemmas.{bytes_eq-refl, same_text, has_text-last}
use Rattle.fm_registry_rules.proofs.AcceptedLemmas.{IsHistory-below, IsHistory-gained, IsHistory-with_more, IsHistory-in_front}
use Rattle.fm_registry_rules.proofs.HistoryLemmas.{metrics_at-calls_below, children_at-calls_below, labels_at-history_below, metrics_at-++, children_at-++, labels_given-++, calls_below-++}

module _ {M : Type 0} where
  -- a name is among a forest's names if a registry with it is found
  pub has_found : (f : Forest M) (n : Text) (c : Tree M) → find_child f n ≡ Some c → has_text (names_in f) n ≡ true
  has_found Leaf n c e = absurd (none_not_some e)
    where
      none_not_some : None ≡ Some c → ⊥
      none_not_some h = cc
  has_found (Child m facts below rest) n c e =
      elim (bytes_eq m n) as (λ d. (if d then Some (record { facts = facts; children = below }) else find_child rest n) ≡ Some c → (if d then true else has_text (names_in rest) n) ≡ true)
      [ true ↦ λ h. refl | false ↦ λ h. has_found rest n c h ] e

  -- a subsystem that is found has a history of its own
  history_found : (o : Option (Tree M)) (t : Tree M) (b : History M) (n : Text) → find_child t.children n ≡ o → Reads t b → IfSome o (λ c. IsHistory (history_below b n))
  history_found None t b n e r = tt
  history_found (Some c) t b n e r = IsHistory-below b n r.history (ap (λ ns. has_text ns n) (sym (r.shows.children [])) ∙ has_found t.children n c e)

  -- each subsystem shows the calls below it
  pub shows_below : (t : Tree M) (b : History M) → Shows t b → (n : Text) → ShowsFrom (find_child t.children n) (history_below b n)
  shows_below t b r n = record {
    metrics = λ p. r.metrics (n ∷ p) ∙ metrics_at-calls_below b.calls n p;
    children = λ p. r.children (n ∷ p) ∙ children_at-calls_below b.calls n p;
    namespace = λ p. r.namespace (n ∷ p);
    labels = λ p. subst (λ ls. IfSome (subtree_from (find_child t.children n) p) (λ c. c.facts.labels ≡ ls)) (labels_at-history_below b n p) (r.labels (n ∷ p));
    depth = λ p. subst (λ k. IfSome (subtree_from (find_child t.children n) p) (λ c. c.facts.depth ≡ k)) (omega arith) (r.depth (n ∷ p));
  }

  -- each subsystem reads the calls below it
  pub reads_below : (t : Tree M) (b : History M) → Reads t b → (n : Text) → ReadsFrom (find_child t.children n) (history_below b n)
  reads_below t b r n = record { shows = shows_below t b r.shows n; history = history_found (find_child t.children n) t b n refl r }

  -- what a root shows of itself
  pub record ReadsRoot (t : Tree M) (b : History M) : Type 0 where
    pub metrics : t.facts.metrics ≡ metrics_at b.calls []
    pub children : names_in t.children ≡ children_at b.calls []
    pub namespace : t.facts.namespace ≡ b.namespace
    pub labels : t.facts.labels ≡ b.labels
    pub depth : t.facts.depth ≡ b.depth
    pub history : IsHistory b

  pub reads_root : (t : Tree M) (b : History M) → Reads t b → ReadsRoot t b
  reads_root t b r = record { metrics = r.shows.metrics []; children = r.shows.children []; namespace = r.shows.namespace []; labels = r.shows.labels []; depth = r.shows.depth [] ∙ omega arith; history = r.history }

  -- and a tree reads a history if its root does and each subsystem reads the calls below it
  pub reads_above : (t : Tree M) (b : History M) → ReadsRoot t b → ((n : Text) → ReadsFrom (find_child t.children n) (history_below b n)) → Reads t b
  reads_above t b root below = record {
    shows = record { metrics = metrics; children = children; namespace = namespace; labels = labels; depth = depth };
    history = root.history;
  }
    where
      metrics : (p : Path) → metrics_of (subtree_at t p) ≡ metrics_at b.calls p
      metrics [] = root.metrics
      metrics (n ∷ p) = (below n).shows.metrics p ∙ sym (metrics_at-calls_below b.calls n p)

      children : (p : Path) → children_of (subtree_at t p) ≡ children_at b.calls p
      children [] = root.children
      children (n ∷ p) = (below n).shows.children p ∙ sym (children_at-calls_below b.calls n p)

      namespace : (p : Path) → IfSome (subtree_at t p) (λ c. c.facts.namespace ≡ namespace_at b p)
      namespace [] = root.namespace
      namespace (n ∷ p) = (below n).shows.namespace p

      labels : (p : Path) → IfSome (subtree_at t p) (λ c. c.facts.labels ≡ labels_at b p)
      labels [] = root.labels
      labels (n ∷ p) = subst (λ ls. IfSome (subtree_from (find_child t.children n) p) (λ c. c.facts.labels ≡ ls)) (sym (labels_at-history_below b n p)) ((below n).shows.labels p)

      depth : (p : Path) → IfSome (subtree_at t p) (λ c. c.facts.depth ≡ b.depth + length p)
      depth [] = root.depth ∙ omega arith
      depth (n ∷ p) = subst (λ k. IfSome (subtree_from (find_child t.children n) p) (λ c. c.facts.depth ≡ k)) (omega arith) ((below n).shows.depth p)

  -- a call at the root, seen from a subsystem
  history_below-with_more : (b : History M) (more : List (Call M)) (n : Text) → labels_given more [] n ≡ [] → calls_below more n ≡ [] → history_below (with_more b more) n ≡ history_below b n
  history_below-with_more b more n no_labels no_calls =
      let given : labels_given (b.calls ++ more) [] n ≡ labels_given b.calls [] n = labels_given-++ b.calls more [] n ∙ ap (λ ls. labels_given b.calls [] n ++ ls) no_labels ∙ append-nil (labels_given b.calls [] n) in
      let below : calls_below (b.calls ++ more) n ≡ calls_below b.calls n = calls_below-++ b.calls more n ∙ ap (λ cs. calls_below b.calls n ++ cs) no_calls ∙ append-nil (calls_below b.calls n) in
      λ i. record { namespace = join_name b.namespace n; labels = merge_labels b.labels (given i); depth = b.depth + 1; calls = below i }

  -- a registration at the root
  pub reads-with_metric : (t : Tree M) (b : History M) (m : Registration M) → answer b (Register [] m) ≡ None → Reads t b → Reads (with_metric t m) (with_more b (Register [] m ∷ []))
  reads-with_metric t b m none r =
      let root = reads_root t b r in
      reads_above (with_metric t m) (with_more b (Register [] m ∷ []))
      (record {
        metrics = ap (λ ms. ms ++ m ∷ []) root.metrics ∙ sym (metrics_at-++ b.calls (Register [] m ∷ []) []);
        children = root.children ∙ sym (children_at-++ b.calls (Register [] m ∷ []) [] ∙ append-nil (children_at b.calls []));
        namespace = root.namespace;
        labels = root.labels;
        depth = root.depth;
        history = IsHistory-gained b (Register [] m) root.history none;
      })
      (λ n. subst (λ c. ReadsFrom (find_child t.children n) c) (sym (history_below-with_more b (Register [] m ∷ []) n refl refl)) (reads_below t b r n))

  -- a name that is not there was given no labels
  labels_given-absent : (calls : List (Call M)) (q : Path) (n : Text) → has_text (children_at calls q) n ≡ false → labels_given calls q n ≡ []
  labels_given-absent [] q n absent = refl
  labels_given-absent (Register p r ∷ calls) q n absent = labels_given-absent calls q n absent
  labels_given-absent (Subsystem p m labels ∷ calls) q n absent =
      elim (path_eq p q) as (λ c. has_text (if c then m ∷ children_at calls q else children_at calls q) n ≡ false → (if c && bytes_eq m n then labels ++ labels_given calls q n else labels_given calls q n) ≡ []) [
        | true ↦ elim (bytes_eq m n) as (λ d. (if d then true else has_text (children_at calls q) n) ≡ false → (if d then labels ++ labels_given calls q n else labels_given calls q n) ≡ [])
            [ true ↦ λ h. absurd (true≢false h) | false ↦ λ h. labels_given-absent calls q n h ]
        | false ↦ λ h. labels_given-absent calls q n h
      ] absent

  -- a name is among a forest's names if a registry with it is found
  pub absent_from_find : (f : Forest M) (n : Text) → find_child f n ≡ None → has_text (names_in f) n ≡ false
  absent_from_find Leaf n e = refl
  absent_from_find (Child m facts below rest) n e =
      elim (bytes_eq m n) as (λ c. (if c then Some (record { facts = facts; children = below }) else find_child rest n) ≡ None → (if c then true else has_text (names_in rest) n) ≡ false)
      [ true ↦ λ h. absurd (some_not_none _ h) | false ↦ λ h. absent_from_find rest n h ] e
    where
      some_not_none : (t : Tree M) → Some t ≡ None → ⊥
      some_not_none t h = cc

  names_in-add_child : (f : Forest M) (n : Text) (facts : Facts M) → names_in (add_child f n facts) ≡ names_in f ++ n ∷ []
  names_in-add_child Leaf n facts = refl
  names_in-add_child (Child m g below rest) n facts = ap (λ ns. m ∷ ns) (names_in-add_child rest n facts)

  -- what is found after a registry is added
  abbrev or_else : Option (Tree M) → Option (Tree M) → Option (Tree M)
  or_else (Some t) o = Some t
  or_else None o = o

  or_else-None : (o : Option (Tree M)) → or_else o None ≡ o
  or_else-None None = refl
  or_else-None (Some t) = refl

  find_child-add_child : (f : Forest M) (n : Text) (facts : Facts M) (m : Text) → find_child (add_child f n facts) m ≡ or_else (find_child f m) (if bytes_eq n m then Some (record { facts = facts; children = Leaf }) else None)
  find_child-add_child Leaf n facts m = refl
  find_child-add_child (Child k g below rest) n facts m =
      elim (bytes_eq k m) as (λ c. (if c then Some (record { facts = g; children = below }) else find_child (add_child rest n facts) m) ≡ or_else (if c then Some (record { facts = g; children = below }) else find_child rest m) (if bytes_eq n m then Some (record { facts = facts; children = Leaf }) else None))
      [ true ↦ refl | false ↦ find_child-add_child rest n facts m ]

  -- a new subsystem reads no calls
  reads_new : (b : History M) (f : Facts M) (n : Text) (labels : Labels) → ReadsFrom None (history_below b n) → has_text (children_at b.calls []) n ≡ false → f.namespace ≡ b.namespace → f.labels ≡ b.labels → f.depth ≡ b.depth → IsHistory (history_below (with_more b (Subsystem [] n labels ∷ [])) n)
      → ReadsFrom (Some (record { facts = new_facts f n labels; children = Leaf })) (history_below (with_more b (Subsystem [] n labels ∷ [])) n)
  reads_new b f n labels r absent namespace given depth history = record {
    shows = record { metrics = metrics; children = children; namespace = namespaces; labels = all_labels; depth = depths };
    history = history;
  }
    where
      below : calls_below (b.calls ++ Subsystem [] n labels ∷ []) n ≡ calls_below b.calls n
      below = calls_below-++ b.calls (Subsystem [] n labels ∷ []) n ∙ append-nil (calls_below b.calls n)

      own : labels_given {M = M} (Subsystem [] n labels ∷ []) [] n ≡ labels
      own = rw (bytes_eq-refl n) (append-nil labels)

      all_given : labels_given (b.calls ++ Subsystem [] n labels ∷ []) [] n ≡ labels
      all_given = labels_given-++ b.calls (Subsystem [] n labels ∷ []) [] n ∙ ap (λ ls. ls ++ labels_given {M = M} (Subsystem [] n labels ∷ []) [] n) (labels_given-absent b.calls [] n absent) ∙ own

      metrics : (p : Path) → metrics_of (subtree_from (Some (record { facts = new_facts f n labels; children = Leaf })) p) ≡ metrics_at (calls_below (b.calls ++ Subsystem [] n labels ∷ []) n) p
      metrics [] = r.shows.metrics [] ∙ ap (λ cs. metrics_at cs []) (sym below)
      metrics (q ∷ p) = r.shows.metrics (q ∷ p) ∙ ap (λ cs. metrics_at cs (q ∷ p)) (sym below)

      children : (p : Path) → children_of (subtree_from (Some (record { facts = new_facts f n labels; children = Leaf })) p) ≡ children_at (calls_below (b.calls ++ Subsystem [] n labels ∷ []) n) p
      children [] = r.shows.children [] ∙ ap (λ cs. children_at cs []) (sym below)
      children (q ∷ p) = r.shows.children (q ∷ p) ∙ ap (λ cs. children_at cs (q ∷ p)) (sym below)

      namespaces : (p : Path) → IfSome (subtree_from (Some (record { facts = new_facts f n labels; children = Leaf })) p) (λ c. c.facts.namespace ≡ namespace_at (history_below (with_more b (Subsystem [] n labels ∷ [])) n) p)
      namespaces [] = ap (λ o. join_name o n) namespace
      namespaces (q ∷ p) = tt

      all_labels : (p : Path) → IfSome (subtree_from (Some (record { facts = new_facts f n labels; children = Leaf })) p) (λ c. c.facts.labels ≡ labels_at (history_below (with_more b (Subsystem [] n labels ∷ [])) n) p)
      all_labels [] = ap (λ ls. merge_labels ls labels) given ∙ ap (λ ls. merge_labels b.labels ls) (sym all_given)
      all_labels (q ∷ p) = tt

      depths : (p : Path) → IfSome (subtree_from (Some (record { facts = new_facts f n labels; children = Leaf })) p) (λ c. c.facts.depth ≡ (b.depth + 1) + length p)
      depths [] = omega arith
      depths (q ∷ p) = tt

  -- a subsystem that is not there is gained, and is the last child
  gained_absent : (b : History M) (n : Text) (labels : Labels) → has_text (children_at b.calls []) n ≡ false → gained b (Subsystem [] n labels) ≡ Subsystem [] n labels ∷ []
  gained_absent b n labels absent = rw absent refl

  last_child : (b : History M) (n : Text) (labels : Labels) → has_text (children_at (b.calls ++ Subsystem [] n labels ∷ []) []) n ≡ true
  last_child b n labels = ap (λ ns. has_text ns n) (children_at-++ b.calls (Subsystem [] n labels ∷ []) []) ∙ has_text-last (children_at b.calls []) n

  -- a new subsystem of the root
  pub reads-add_child : (t : Tree M) (b : History M) (n : Text) (labels : Labels) → answer b (Subsystem [] n labels) ≡ None → Reads t b → find_child t.children n ≡ None
      → Reads (record t { children = add_child t.children n (new_facts t.facts n labels) }) (with_more b (Subsystem [] n labels ∷ []))
  reads-add_child t b n labels accepted r none =
      let root = reads_root t b r in
      let absent : has_text (children_at b.calls []) n ≡ false = ap (λ ns. has_text ns n) (sym root.children) ∙ absent_from_find t.children n none in
      let history : IsHistory (with_more b (Subsystem [] n labels ∷ [])) = IsHistory-with_more b (Subsystem [] n labels ∷ []) root.history (record { answer = accepted; new = gained_absent b n labels absent }, tt) in
      reads_above (record t { children = add_child t.children n (new_facts t.facts n labels) }) (with_more b (Subsystem [] n labels ∷ []))
      (record {
        metrics = root.metrics ∙ sym (metrics_at-++ b.calls (Subsystem [] n labels ∷ []) [] ∙ append-nil (metrics_at b.calls []));
        children = names_in-add_child t.children n (new_facts t.facts n labels) ∙ ap (λ ns. ns ++ n ∷ []) root.children ∙ sym (children_at-++ b.calls (Subsystem [] n labels ∷ []) []);
        namespace = root.namespace;
        labels = root.labels;
        depth = root.depth;
        history = history;
      })
      (λ m. below root absent history m)
    where
      below : ReadsRoot t b → has_text (children_at b.calls []) n ≡ false → IsHistory (with_more b (Subsystem [] n labels ∷ [])) → (m : Text) → ReadsFrom (find_child (add_child t.children n (new_facts t.facts n labels)) m) (history_below (with_more b (Subsystem [] n labels ∷ [])) m)
      below root absent history m =
          subst (λ o. ReadsFrom o (history_below (with_more b (Subsystem [] n labels ∷ [])) m)) (sym (find_child-add_child t.children n (new_facts t.facts n labels) m)) (
          elim (bytes_eq n m) as (λ c. bytes_eq n m ≡ c → ReadsFrom (or_else (find_child t.children m) (if c then Some (record { facts = new_facts t.facts n labels; children = Leaf }) else None)) (history_below (with_more b (Subsystem [] n labels ∷ [])) m)) [
            | true ↦ λ e. subst (λ k. ReadsFrom (or_else (find_child t.children k) (Some (record { facts = new_facts t.facts n labels; children = Leaf }))) (history_below (with_more b (Subsystem [] n labels ∷ [])) k)) (same_text n m e)
                (subst (λ o. ReadsFrom (or_else o (Some (record { facts = new_facts t.facts n labels; children = Leaf }))) (history_below (with_more b (Subsystem [] n labels ∷ [])) n)) (sym none)
                (reads_new b t.facts n labels (subst (λ o. ReadsFrom o (history_below b n)) none (reads_below t b r n)) absent root.namespace root.labels root.depth (IsHistory-below (with_more b (Subsystem [] n labels ∷ [])) n history (last_child b n labels))))
            | false ↦ λ e. subst (λ o. ReadsFrom o (history_below (with_more b (Subsystem [] n labels ∷ [])) m)) (sym (or_else-None (find_child t.children m)))
                (subst (λ c. ReadsFrom (find_child t.children m) c) (sym (history_below-with_more b (Subsystem [] n labels ∷ []) m (rw e refl) refl)) (reads_below t b r m))
          ] refl)

  -- the calls of a subsystem, with its name in front
  calls_below-in_front : (more : List (Call M)) (n : Text) → calls_below (map (in_front n) more) n ≡ more
  calls_below-in_front [] n = refl
  calls_below-in_front (Subsystem q m labels ∷ more) n = rw (bytes_eq-refl n) (ap (λ cs. Subsystem q m labels ∷ cs) (calls_below-in_front more n))
  calls_below-in_front (Register q r ∷ more) n = rw (bytes_eq-refl n) (ap (λ cs. Register q r ∷ cs) (calls_below-in_front more n))

  calls_below-others : (more : List (Call M)) (n m : Text) → bytes_eq n m ≡ false → calls_below (map (in_front n) more) m ≡ []
  calls_below-others [] n m e = refl
  calls_below-others (Subsystem q k labels ∷ more) n m e = rw e (calls_below-others more n m e)
  calls_below-others (Register q r ∷ more) n m e = rw e (calls_below-others more n m e)

  metrics_at-in_front : (more : List (Call M)) (n : Text) → metrics_at (map (in_front n) more) [] ≡ []
  metrics_at-in_front [] n = refl
  metrics_at-in_front (Subsystem q k labels ∷ more) n = metrics_at-in_front more n
  metrics_at-in_front (Register q r ∷ more) n = metrics_at-in_front more n

  children_at-in_front : (more : List (Call M)) (n : Text) → children_at (map (in_front n) more) [] ≡ []
  children_at-in_front [] n = refl
  children_at-in_front (Subsystem q k labels ∷ more) n = children_at-in_front more n
  children_at-in_front (Register q r ∷ more) n = children_at-in_front more n

  labels_given-in_front : (more : List (Call M)) (n m : Text) → labels_given (map (in_front n) more) [] m ≡ []
  labels_given-in_front [] n m = refl
  labels_given-in_front (Subsystem q k labels ∷ more) n m = labels_given-in_front more n m
  labels_given-in_front (Register q r ∷ more) n m = labels_given-in_front more n m

  -- a subsystem instead of the one with its name
  names_in-with_named : (f : Forest M) (n : Text) (w : Tree M) → names_in (with_named f n n w) ≡ names_in f
  names_in-with_named Leaf n w = refl
  names_in-with_named (Child k g below rest) n w =
      elim (bytes_eq k n) as (λ c. bytes_eq k n ≡ c → names_in (if c then Child n w.facts w.children rest else Child k g below (with_named rest n n w)) ≡ k ∷ names_in rest)
      [ true ↦ λ e. ap (λ j. j ∷ names_in rest) (sym (same_text k n e)) | false ↦ λ e. ap (λ ns. k ∷ ns) (names_in-with_named rest n w) ] refl

  find_child-with_named : (f : Forest M) (n : Text) (c w : Tree M) → find_child f n ≡ Some c → find_child (with_named f n n w) n ≡ Some w
  find_child-with_named Leaf n c w there = absurd (none_not_some there)
    where
      none_not_some : None ≡ Some c → ⊥
      none_not_some h = cc
  find_child-with_named (Child k g below rest) n c w there =
      elim (bytes_eq k n) as (λ d. bytes_eq k n ≡ d → (if d then Some (record { facts = g; children = below }) else find_child rest n) ≡ Some c → find_child (if d then Child n w.facts w.children rest else Child k g below (with_named rest n n w)) n ≡ Some w)
      [ true ↦ λ e h. rw (bytes_eq-refl n) refl | false ↦ λ e h. rw e (find_child-with_named rest n c w h) ] refl there

  find_child-others : (f : Forest M) (n m : Text) (w : Tree M) → bytes_eq n m ≡ false → find_child (with_named f n n w) m ≡ find_child f m
  find_child-others Leaf n m w other = refl
  find_child-others (Child k g below rest) n m w other =
      elim (bytes_eq k n) as (λ d. bytes_eq k n ≡ d → find_child (if d then Child n w.facts w.children rest else Child k g below (with_named rest n n w)) m ≡ (if bytes_eq k m then Some (record { facts = g; children = below }) else find_child rest m)) [
        | true ↦ λ e. rw (other, same_text k n e, other) refl
        | false ↦ λ e. ap (λ o. if bytes_eq k m then Some (record { facts = g; children = below }) else o) (find_child-others rest n m w other)
      ] refl

  -- what a subsystem's history gained follows in the history above it, with the name in front
  pub reads-with_child : (t : Tree M) (b : History M) (n : Text) (c w : Tree M) (more : List (Call M)) → Reads t b → find_child t.children n ≡ Some c
      → Reads w (with_more (history_below b n) more) → Reads (with_child t n w) (with_more b (map (in_front n) more))
  reads-with_child t b n c w more r there read =
      let root = reads_root t b r in
      reads_above (with_child t n w) (with_more b (map (in_front n) more))
      (record {
        metrics = root.metrics ∙ sym (metrics_at-++ b.calls (map (in_front n) more) [] ∙ ap (λ rs. metrics_at b.calls [] ++ rs) (metrics_at-in_front more n) ∙ append-nil (metrics_at b.calls []));
        children = names_in-with_named t.children n w ∙ root.children ∙ sym (children_at-++ b.calls (map (in_front n) more) [] ∙ ap (λ rs. children_at b.calls [] ++ rs) (children_at-in_front more n) ∙ append-nil (children_at b.calls []));
        namespace = root.namespace;
        labels = root.labels;
        depth = root.depth;
        history = IsHistory-in_front b n more root.history (ap (λ ns. has_text ns n) (sym root.children) ∙ has_found t.children n c there) read.history;
      })
      below
    where
      own : history_below (with_more b (map (in_front n) more)) n ≡ with_more (history_below b n) more
      own =
          let given : labels_given (b.calls ++ map (in_front n) more) [] n ≡ labels_given b.calls [] n = labels_given-++ b.calls (map (in_front n) more) [] n ∙ ap (λ ls. labels_given b.calls [] n ++ ls) (labels_given-in_front more n n) ∙ append-nil (labels_given b.calls [] n) in
          let calls : calls_below (b.calls ++ map (in_front n) more) n ≡ calls_below b.calls n ++ more = calls_below-++ b.calls (map (in_front n) more) n ∙ ap (λ cs. calls_below b.calls n ++ cs) (calls_below-in_front more n) in
          λ i. record { namespace = join_name b.namespace n; labels = merge_labels b.labels (given i); depth = b.depth + 1; calls = calls i }

      below : (m : Text) → ReadsFrom (find_child (with_named t.children n n w) m) (history_below (with_more b (map (in_front n) more)) m)
      below m =
          elim (bytes_eq n m) as (λ d. bytes_eq n m ≡ d → ReadsFrom (find_child (with_named t.children n n w) m) (history_below (with_more b (map (in_front n) more)) m)) [
            | true ↦ λ e. subst (λ k. ReadsFrom (find_child (with_named t.children n n w) k) (history_below (with_more b (map (in_front n) more)) k)) (same_text n m e)
                (subst (λ o. ReadsFrom o (history_below (with_more b (map (in_front n) more)) n)) (sym (find_child-with_named t.children n c w there))
                (subst (λ d. ReadsFrom (Some w) d) (sym own) read))
            | false ↦ λ e. subst (λ o. ReadsFrom o (history_below (with_more b (map (in_front n) more)) m)) (sym (find_child-others t.children n m w e))
                (subst (λ d. ReadsFrom (find_child t.children m) d) (sym (history_below-with_more b (map (in_front n) more) m (labels_given-in_front more n m) (calls_below-others more n m e))) (reads_below t b r m))
          ] refl

  -- writing back what was there changes nothing
  pub with_named-itself : (f : Forest M) (n : Text) (c : Tree M) → find_child f n ≡ Some c → with_named f n n c ≡ f
  with_named-itself Leaf n c there = refl
  with_named-itself (Child k g below rest) n c there =
      elim (bytes_eq k n) as (λ d. bytes_eq k n ≡ d → (if d then Some (record { facts = g; children = below }) else find_child rest n) ≡ Some c → (if d then Child n c.facts c.children rest else Child k g below (with_named rest n n c)) ≡ Child k g below rest) [
        | true ↦ λ e h.
            let same : record { facts = g; children = below } ≡ c = cc in
            subst (λ t. Child n t.facts t.children rest ≡ Child k g below rest) same (ap (λ j. Child j g below rest) (sym (same_text k n e)))
        | false ↦ λ e h. ap (λ r. Child k g below r) (with_named-itself rest n c h)
      ] refl there
