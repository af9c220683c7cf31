-- Trees that read a history whose metrics all fit.
use Rattle.std.proofs.Common.{◌≡◌, true, [], ◌∷◌, Option, None, Some, IfSome, refl, sym, ap, subst, ◌∙◌, true≢false}
use Rattle.std.specs.List.{AllByRecursion}
use Rattle.fm_registry_rules.specs.Texts.{Text, Path, Labels, has_text}
use Rattle.fm_registry_rules.specs.Registration.{Registration}
use Rattle.fm_registry_rules.specs.History.{History, Subsystem, Register, root_history, children_at, labels_at, namespace_at, history_below}
use Rattle.fm_registry_rules.specs.Answer.{answer, after}
use Rattle.fm_registry_rules.specs.Tree.{Tree, ShowsFrom, Shows, Reads, find_child, subtree_from}
use Rattle.fm_registry_rules.specs.Listing.{Listed, IsListable, order}
use Rattle.fm_registry_rules.specs.inside.Fitting.{FitsAt, HasFittingHistory}
use Rattle.fm_registry_rules.proofs.HistoryLemmas.{missing_along-calls_below}
use Rattle.fm_registry_rules.proofs.TreeLemmas.{shows_below, absent_from_find}
use Rattle.fm_registry_rules.proofs.OrderLemmas.{shown-order, tree-order, listed_tree-fits}
use Rattle.fm_registry_rules.proofs.FittingLemmas.{Leads, first_leads, registered-leads, EachFits-root_history, EachFits-registered, EachFits-subsystem, order_fits}

module _ {M : Type 0} where
  -- where a path leads to a registry, the tree has one
  found : (p : Path) (t : Tree M) (b : History M) → Shows t b → Leads b.calls [] p → (c : Tree M) × (subtree_from (Some t) p ≡ Some c)
  found [] t b shows leads = (t, refl)
  found (n ∷ p) t b shows leads =
      let first = first_leads b.calls [] n p leads in
      let there : has_text (children_at b.calls []) n ≡ true = first.0 in
      let below : Leads (history_below b n).calls [] p = sym (missing_along-calls_below b.calls n [] p) ∙ first.1 in
      elim (find_child t.children n) as (λ o. find_child t.children n ≡ o → (c : Tree M) × (subtree_from o p ≡ Some c)) [
        | None ↦ λ e. absurd (true≢false (sym there ∙ ap (λ ns. has_text ns n) (sym (shows.children [])) ∙ absent_from_find t.children n e))
        | Some child ↦ λ e. found p child (history_below b n) (subst (λ o. ShowsFrom o (history_below b n)) e (shows_below t b shows n)) below
      ] refl

module _ {M : Type 0} (Fits : Listed M → Type 0) where
  -- what fits in the tree's registry fits with the namespace and the labels that the history has there
  pub fits_there : (t : Tree M) (b : History M) (p : Path) (r : Registration M) → Shows t b → FitsAt Fits t p r → answer b (Register p r) ≡ None → Fits (record { namespace = namespace_at b p; labels = labels_at b p; registration = r })
  fits_there t b p r shows fits none =
      let there = found p t b shows (registered-leads b p r none) in
      let namespace : there.0.facts.namespace ≡ namespace_at b p = subst (λ o. IfSome o (λ c. c.facts.namespace ≡ namespace_at b p)) there.1 (shows.namespace p) in
      let labels : there.0.facts.labels ≡ labels_at b p = subst (λ o. IfSome o (λ c. c.facts.labels ≡ labels_at b p)) there.1 (shows.labels p) in
      let here = subst (λ o. IfSome o (λ c. Fits (record { namespace = c.facts.namespace; labels = c.facts.labels; registration = r }))) there.1 fits in
      subst (λ (l : Listed M). Fits l) (λ i. record { namespace = namespace i; labels = labels i; registration = r }) here

  -- a new root
  pub fitting-root : (t : Tree M) (namespace : Option Text) (labels : Labels) → Reads t (root_history namespace labels) → HasFittingHistory Fits t
  fitting-root t namespace labels reads = record { history = root_history namespace labels; reads = reads; each = EachFits-root_history Fits namespace labels }

  -- a metric was registered that fits if the history accepts it
  pub fitting-accepted : (t u : Tree M) (p : Path) (r : Registration M) → HasFittingHistory Fits t
      → ((b : History M) → Reads t b → answer b (Register p r) ≡ None → Fits (record { namespace = namespace_at b p; labels = labels_at b p; registration = r }))
      → ((b : History M) → Reads t b → Reads u (after b (Register p r))) → HasFittingHistory Fits u
  fitting-accepted t u p r h fits reads = record {
    history = after h.history (Register p r);
    reads = reads h.history h.reads;
    each = EachFits-registered Fits h.history p r h.each (fits h.history h.reads);
  }

  -- a subsystem was asked for
  pub fitting-subsystem : (t u : Tree M) (p : Path) (n : Text) (labels : Labels) → HasFittingHistory Fits t → ((b : History M) → Reads t b → Reads u (after b (Subsystem p n labels))) → HasFittingHistory Fits u
  fitting-subsystem t u p n labels h reads = record {
    history = after h.history (Subsystem p n labels);
    reads = reads h.history h.reads;
    each = EachFits-subsystem Fits h.history p n labels h.reads.history h.each;
  }

  -- the metrics of every history that the tree shows fit, in their order
  pub shown_fits : (t : Tree M) (b : History M) → HasFittingHistory Fits t → Shows t b → AllByRecursion Fits (order b)
  shown_fits t b h shows =
      subst (AllByRecursion Fits) (sym (tree-order t h.history h.reads) ∙ shown-order t h.history b h.reads shows) (order_fits Fits h.history h.each)

  -- and make well-formed families
  pub shown_listable : (t : Tree M) (b : History M) → HasFittingHistory Fits t → Shows t b → AllByRecursion IsListable (order b)
  shown_listable t b h shows = subst (AllByRecursion IsListable) (shown-order t h.history b h.reads shows) (listed_tree-fits t h.history h.reads)
