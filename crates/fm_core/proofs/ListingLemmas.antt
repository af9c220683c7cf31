-- The list of registries grows as the tree is walked.
use Rattle.std.proofs.Common.{◌≡◌, ℕ, zero, suc, arith, ◌+◌, ◌<◌, List, [], ◌∷◌, ◌++◌, length, get_or, slice_get, take, Option, Some, Bor, sym, ap, ◌∙◌, append_assoc, append-nil}
use Rattle.std.specs.Option.{option_map}
use Rattle.std.proofs.lemmas.List.{take_more}
use Rattle.std.proofs.lemmas.Option.{slice_get-map}
use Rattle.std.proofs.lemmas.Grind.{flat_map-append}
use Rattle.fm_raw.specs.declared.metadata.Metadata.{Metadata}
use Rattle.fm_registry_rules.specs.Texts.{Text, Labels}
use Rattle.fm_registry_rules.specs.Registration.{Registration}
use Rattle.fm_registry_rules.specs.Tree.{Tree}
use Rattle.fm_registry_rules.specs.Listing.{Listed, listed_with, own_metrics, listed_forest, listed_tree}
use Rattle.fm_core.specs.View.{seen_metric}
use Rattle.fm_core.specs.inside.TreeView.{seen_metrics, forest_of}
use Rattle.fm_core.specs.Seen.{listed_in}
use Rattle.fm_registry_rules.specs.declared.names.Tailed.{Tailed}
use Rattle.fm_core.specs.declared.registry.tree.Subsystem.{Subsystem}

module _ {M : Type 0} where
  -- the metric at an index
  pub listed-at : (namespace : Option Text) (labels : Labels) (d : Metadata) (m : M) (es : List (Tailed × M)) (i : ℕ) (k : Tailed) → slice_get es i ≡ Some (k, m) → d ≡ k.metadata
      → Some (record { namespace = namespace; labels = labels; registration = seen_metric d m }) ≡ slice_get (listed_with namespace labels (seen_metrics es)) i
  listed-at namespace labels d m es i k at same =
      let Listing : Registration M → Listed M = λ r. record { namespace = namespace; labels = labels; registration = r } in
      let Seen : Tailed × M → Registration M = λ e. seen_metric e.0.metadata e.1 in
      ap (λ (x : Metadata). Some (Listing (seen_metric x m))) same
      ∙ sym (slice_get-map Listing (seen_metrics es) i ∙ ap (option_map Listing) (slice_get-map Seen es i ∙ ap (option_map Seen) at))

  -- one registry more
  pub listed_in-push : (registries : List (Bor (Tree M))) (r : Bor (Tree M)) → listed_in (registries ++ r ∷ []) ≡ listed_in registries ++ own_metrics r.now.facts
  listed_in-push registries r =
      flat_map-append (λ (x : Bor (Tree M)). own_metrics x.now.facts) registries (r ∷ [])
      ∙ ap (λ (ms : List (Listed M)). listed_in registries ++ ms) (append-nil (own_metrics r.now.facts))

  listed_forest-++ : (ss : List (Subsystem M)) (s : Subsystem M) → listed_forest (forest_of (ss ++ s ∷ [])) ≡ listed_forest (forest_of ss) ++ listed_tree s.registry
  listed_forest-++ [] s = ap (λ ms. own_metrics s.registry.facts ++ ms) (append-nil (listed_forest s.registry.children))
  listed_forest-++ (x ∷ ss) s =
      let own = own_metrics x.registry.facts in
      let below = listed_forest x.registry.children in
      ap (λ ms. own ++ (below ++ ms)) (listed_forest-++ ss s)
      ∙ ap (λ ms. own ++ ms) (sym (append_assoc below (listed_forest (forest_of ss)) (listed_tree s.registry)))
      ∙ sym (append_assoc own (below ++ listed_forest (forest_of ss)) (listed_tree s.registry))

  -- one subsystem more
  pub listed_forest-next : (ss : List (Subsystem M)) (i : ℕ) (s : Subsystem M) → i < length ss → s ≡ get_or ss i s
      → listed_forest (forest_of (take (i + 1) ss)) ≡ listed_forest (forest_of (take i ss)) ++ listed_tree s.registry
  listed_forest-next ss i s within is =
      let more : take (i + 1) ss ≡ take i ss ++ s ∷ [] = take_more ss i s within ∙ ap (λ (x : Subsystem M). take i ss ++ x ∷ []) (sym is) in
      ap (λ xs. listed_forest (forest_of xs)) more ∙ listed_forest-++ (take i ss) s

  -- the metrics of the subsystems before one, its own with those below it, and the rest
  pub listed_forest-at : (ss : List (Subsystem M)) (i : ℕ) (s : Subsystem M) → i < length ss → s ≡ get_or ss i s
      → (rest : List (Listed M)) × (listed_forest (forest_of ss) ≡ listed_forest (forest_of (take i ss)) ++ (listed_tree s.registry ++ rest))
  listed_forest-at [] i s within is = absurd (omega arith)
  listed_forest-at (x ∷ ss) zero s within is =
      let rest = listed_forest (forest_of ss) in
      (rest, sym (append_assoc (own_metrics x.registry.facts) (listed_forest x.registry.children) rest) ∙ ap (λ (y : Subsystem M). listed_tree y.registry ++ rest) (sym is))
  listed_forest-at (x ∷ ss) (suc i) s within is =
      let own = own_metrics x.registry.facts in
      let below = listed_forest x.registry.children in
      let (rest, split) = listed_forest-at ss i s (omega arith) is in
      let more = listed_tree s.registry ++ rest in (
        rest,
        ap (λ ms. own ++ (below ++ ms)) split
            ∙ ap (λ ms. own ++ ms) (sym (append_assoc below (listed_forest (forest_of (take i ss))) more))
            ∙ sym (append_assoc own (below ++ listed_forest (forest_of (take i ss))) more),
      )

  pub listed-subsystem : (news olds base : List (Listed M)) (ss : List (Subsystem M)) (i : ℕ) (s : Subsystem M)
      → i < length ss → s ≡ get_or ss i s → olds ≡ base ++ listed_forest (forest_of (take i ss)) → news ≡ olds ++ listed_tree s.registry
      → news ≡ base ++ listed_forest (forest_of (take (i + 1) ss))
  listed-subsystem news olds base ss i s within is before new =
      new ∙ ap (λ ms. ms ++ listed_tree s.registry) before ∙ append_assoc base (listed_forest (forest_of (take i ss))) (listed_tree s.registry)
      ∙ ap (λ ms. base ++ ms) (sym (listed_forest-next ss i s within is))
