-- The order of a history's metrics by the histories of its subsystems.
use Rattle.std.proofs.Common.{◌≡◌, ℕ, zero, suc, List, [], ◌∷◌, ◌++◌, length, refl, ◌∙◌}
use Rattle.std.specs.Prelude.{flat_map}
use Rattle.fm_registry_rules.specs.Texts.{Text, Path}
use Rattle.fm_registry_rules.specs.History.{History, metrics_at, children_at, namespace_at, history_below}
use Rattle.fm_registry_rules.specs.Listing.{Listed, listed_with, listed_at, order_from, order}
use Rattle.fm_registry_rules.proofs.HistoryLemmas.{metrics_at-calls_below, children_at-calls_below, labels_at-history_below}

module _ {M : Type 0} where
  -- the root's metrics by registration, then those of each subsystem's history
  abbrev pub order_to : ℕ → History M → List (Listed M)
  order_to zero b = listed_with b.namespace b.labels (metrics_at b.calls [])
  order_to (suc depth) b = listed_with b.namespace b.labels (metrics_at b.calls []) ++ flat_map (λ name. order_to depth (history_below b name)) (children_at b.calls [])

  -- what is listed below a subsystem, as that subsystem sees it
  listed_at-below : (b : History M) (n : Text) (p : Path) → listed_at b (n ∷ p) ≡ listed_at (history_below b n) p
  listed_at-below b n p = λ i. listed_with (namespace_at (history_below b n) p) (labels_at-history_below b n p i) (metrics_at-calls_below b.calls n p i)

  order_from-below : (k : ℕ) (b : History M) (n : Text) (p : Path) → order_from b k (n ∷ p) ≡ order_from (history_below b n) k p
  order_from-below zero b n p = listed_at-below b n p
  order_from-below (suc k) b n p =
      λ i. listed_at-below b n p i ++ flat_map (λ m. order_from-below k b n (p ++ m ∷ []) i) (children_at-calls_below b.calls n p i)

  order_from-root : (k : ℕ) (b : History M) → order_from b k [] ≡ order_to k b
  order_from-root zero b = refl
  order_from-root (suc k) b =
      λ i. listed_with b.namespace b.labels (metrics_at b.calls []) ++ flat_map (λ m. (order_from-below k b m [] ∙ order_from-root k (history_below b m)) i) (children_at b.calls [])

  pub order-to : (b : History M) → order b ≡ order_to (length b.calls) b
  order-to b = order_from-root (length b.calls) b
