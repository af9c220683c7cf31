-- The tree's own listing is the order that each history gives which the tree shows.
use Rattle.std.proofs.Common.{◌≡◌, ℕ, zero, suc, ◌+◌, ◌≤◌, Bool, true, false, List, [], ◌∷◌, ◌++◌, Some, length, if◌then◌else◌, refl, sym, ap, subst, ◌∙◌, append_assoc, append-nil, true≢false, arith}
use Rattle.std.specs.Prelude.{flat_map}
use Rattle.std.specs.List.{AllByRecursion}
use Rattle.std.specs.Str.{bytes_eq}
use Rattle.fm_registry_rules.specs.Texts.{Text, Path, has_text}
use Rattle.fm_registry_rules.specs.inside.Once.{is_once}
use Rattle.fm_registry_rules.specs.History.{Call, Subsystem, Register, History, metrics_at, children_at, calls_below, history_below}
use Rattle.fm_registry_rules.specs.Tree.{Forest, Leaf, Child, Tree, names_in, find_child, subtree_from, children_of, Shows, ShowsFrom, Reads}
use Rattle.fm_registry_rules.specs.inside.Forests.{subtree_at}
use Rattle.fm_registry_rules.specs.Listing.{IsListable, listed_with, own_metrics, listed_forest, listed_tree, order}
use Rattle.fm_registry_rules.proofs.TextLemmas.{bytes_eq-refl, same_text, both_once}
use Rattle.fm_registry_rules.proofs.AcceptedLemmas.{is_once-children}
use Rattle.fm_registry_rules.proofs.DepthLemmas.{order_to, order-to}
use Rattle.fm_registry_rules.proofs.ListableLemmas.{listed_fits}
use Rattle.fm_registry_rules.proofs.TreeLemmas.{shows_below, has_found}

module _ {M : Type 0} where
  calls_below-no_more : (calls : List (Call M)) (n : Text) → length (calls_below calls n) ≤ length calls
  calls_below-no_more [] n = omega arith
  calls_below-no_more (Subsystem [] m labels ∷ calls) n = omega (arith, calls_below-no_more calls n)
  calls_below-no_more (Register [] r ∷ calls) n = omega (arith, calls_below-no_more calls n)
  calls_below-no_more (Subsystem (k ∷ q) m labels ∷ calls) n =
      elim (bytes_eq k n) as (λ c. length (if c then Subsystem q m labels ∷ calls_below calls n else calls_below calls n) ≤ length (Subsystem (k ∷ q) m labels ∷ calls))
      [ true ↦ omega (arith, calls_below-no_more calls n) | false ↦ omega (arith, calls_below-no_more calls n) ]
  calls_below-no_more (Register (k ∷ q) r ∷ calls) n =
      elim (bytes_eq k n) as (λ c. length (if c then Register q r ∷ calls_below calls n else calls_below calls n) ≤ length (Register (k ∷ q) r ∷ calls))
      [ true ↦ omega (arith, calls_below-no_more calls n) | false ↦ omega (arith, calls_below-no_more calls n) ]

  -- a subsystem has fewer calls below it, since its own is not among them
  calls_below-fewer : (calls : List (Call M)) (n : Text) → has_text (children_at calls []) n ≡ true → length (calls_below calls n) + 1 ≤ length calls
  calls_below-fewer [] n there = absurd (true≢false (sym there))
  calls_below-fewer (Subsystem [] m labels ∷ calls) n there = omega (arith, calls_below-no_more calls n)
  calls_below-fewer (Register [] r ∷ calls) n there = omega (arith, calls_below-fewer calls n there)
  calls_below-fewer (Subsystem (k ∷ q) m labels ∷ calls) n there =
      elim (bytes_eq k n) as (λ c. length (if c then Subsystem q m labels ∷ calls_below calls n else calls_below calls n) + 1 ≤ length (Subsystem (k ∷ q) m labels ∷ calls))
      [ true ↦ omega (arith, calls_below-fewer calls n there) | false ↦ omega (arith, calls_below-fewer calls n there) ]
  calls_below-fewer (Register (k ∷ q) r ∷ calls) n there =
      elim (bytes_eq k n) as (λ c. length (if c then Register q r ∷ calls_below calls n else calls_below calls n) + 1 ≤ length (Register (k ∷ q) r ∷ calls))
      [ true ↦ omega (arith, calls_below-fewer calls n there) | false ↦ omega (arith, calls_below-fewer calls n there) ]

  own-order : (t : Tree M) (b : History M) → Shows t b → own_metrics t.facts ≡ listed_with b.namespace b.labels (metrics_at b.calls [])
  own-order t b r = λ i. listed_with (r.namespace [] i) (r.labels [] i) (r.metrics [] i)

  -- at every path the names of subsystems differ
  abbrev DifferBelow : Tree M → Type 0
  DifferBelow t = (p : Path) → is_once (children_of (subtree_at t p)) ≡ true

  -- it is so in every tree of accepted calls
  differ_below : (t : Tree M) (b : History M) → Reads t b → DifferBelow t
  differ_below t b r p = ap is_once (r.shows.children p) ∙ is_once-children b p r.history

  -- a tree that shows a history, if the names of subsystems differ
  record ShowsOnce (t : Tree M) (b : History M) : Type 0 where
    shows : Shows t b
    once : DifferBelow t

  -- and so does each subsystem
  once_below : (t : Tree M) (b : History M) → ShowsOnce t b → (n : Text) (c : Tree M) → find_child t.children n ≡ Some c → ShowsOnce c (history_below b n)
  once_below t b r n c there = record {
    shows = subst (λ o. ShowsFrom o (history_below b n)) there (shows_below t b r.shows n);
    once = λ p. subst (λ o. is_once (children_of (subtree_from o p)) ≡ true) there (r.once (n ∷ p));
  }

  -- each subsystem's metrics, if every one lists its own in order
  forest-order : (k : ℕ) (f : Forest M) (b : History M)
      → ((t : Tree M) (d : History M) → length d.calls ≤ k → ShowsOnce t d → listed_tree t ≡ order_to k d)
      → is_once (names_in f) ≡ true
      → ((n : Text) (c : Tree M) → find_child f n ≡ Some c → ShowsOnce c (history_below b n))
      → ((n : Text) → has_text (names_in f) n ≡ true → length (calls_below b.calls n) ≤ k)
      → listed_forest f ≡ flat_map (λ n. order_to k (history_below b n)) (names_in f)
  forest-order k Leaf b each once reads few = refl
  forest-order k (Child m facts below rest) b each once reads few =
      let first : find_child (Child m facts below rest) m ≡ Some (record { facts = facts; children = below }) = rw (bytes_eq-refl m) refl in
      let here : listed_tree (record { facts = facts; children = below }) ≡ order_to k (history_below b m) =
      each (record { facts = facts; children = below }) (history_below b m) (few m (rw (bytes_eq-refl m) refl)) (reads m (record { facts = facts; children = below }) first) in
      let others : listed_forest rest ≡ flat_map (λ n. order_to k (history_below b n)) (names_in rest) =
      forest-order k rest b each (both_once (has_text (names_in rest) m) (is_once (names_in rest)) once).1
      (λ n c there. reads n c (skip n (both_once (has_text (names_in rest) m) (is_once (names_in rest)) once).0 (has_found rest n c there) ∙ there))
      (λ n there. few n (later n (bytes_eq m n) there)) in
      sym (append_assoc (own_metrics facts) (listed_forest below) (listed_forest rest)) ∙ (λ i. here i ++ others i)
    where
      later : (n : Text) (c : Bool) → has_text (names_in rest) n ≡ true → (if c then true else has_text (names_in rest) n) ≡ true
      later n true e = refl
      later n false e = e

      skip : (n : Text) → has_text (names_in rest) m ≡ false → has_text (names_in rest) n ≡ true → find_child (Child m facts below rest) n ≡ find_child rest n
      skip n absent there =
          elim (bytes_eq m n) as (λ c. bytes_eq m n ≡ c → (if c then Some (record { facts = facts; children = below }) else find_child rest n) ≡ find_child rest n) [
            | true ↦ λ e. absurd (true≢false (sym there ∙ ap (λ j. has_text (names_in rest) j) (sym (same_text m n e)) ∙ absent))
            | false ↦ λ e. refl
          ] refl

  no_children : (f : Forest M) → names_in f ≡ [] → f ≡ Leaf
  no_children Leaf e = refl
  no_children (Child n facts below rest) e = absurd (cons_not_nil e)
    where
      cons_not_nil : n ∷ names_in rest ≡ [] → ⊥
      cons_not_nil h = cc

  no_calls : (calls : List (Call M)) → length calls ≤ 0 → calls ≡ []
  no_calls [] e = refl
  no_calls (c ∷ calls) e = absurd (omega (arith, e))

  tree-order_to : (k : ℕ) (t : Tree M) (b : History M) → length b.calls ≤ k → ShowsOnce t b → listed_tree t ≡ order_to k b
  tree-order_to zero t b short r =
      let leaf : t.children ≡ Leaf = no_children t.children (r.shows.children [] ∙ ap (λ cs. children_at cs []) (no_calls b.calls short)) in
      ap (λ f. own_metrics t.facts ++ listed_forest f) leaf ∙ append-nil (own_metrics t.facts) ∙ own-order t b r.shows
  tree-order_to (suc k) t b short r =
      let below : listed_forest t.children ≡ flat_map (λ n. order_to k (history_below b n)) (names_in t.children) =
      forest-order k t.children b (tree-order_to k) (r.once []) (once_below t b r)
      (λ n there. omega (arith, short, calls_below-fewer b.calls n (ap (λ ns. has_text ns n) (sym (r.shows.children [])) ∙ there))) in
      λ i. own-order t b r.shows i ++ (below ∙ ap (λ ns. flat_map (λ n. order_to k (history_below b n)) ns) (r.shows.children [])) i

  -- in a tree of accepted calls, the listing is the order of every history that the tree shows
  pub shown-order : (t : Tree M) (a b : History M) → Reads t a → Shows t b → listed_tree t ≡ order b
  shown-order t a b r shows = tree-order_to (length b.calls) t b (omega arith) (record { shows = shows; once = differ_below t a r }) ∙ sym (order-to b)

  pub tree-order : (t : Tree M) (b : History M) → Reads t b → listed_tree t ≡ order b
  tree-order t b r = shown-order t b b r r.shows

  -- each metric that the tree of a history lists makes a well-formed family
  pub listed_tree-fits : (t : Tree M) (b : History M) → Reads t b → AllByRecursion IsListable (listed_tree t)
  listed_tree-fits t b r = subst (λ ms. AllByRecursion IsListable ms) (sym (tree-order t b r)) (listed_fits b r.history)
