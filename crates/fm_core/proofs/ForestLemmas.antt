-- The subsystems that a registry holds, as a forest.
use Rattle.std.proofs.Common.{◌≡◌, ℕ, suc, zero, ◌+◌, ◌<◌, List, [], ◌∷◌, Option, None, Some, IsSome, length, get_or, slice_get, slice_set, if◌then◌else◌, refl, sym, ap, ◌∙◌, true≢false, arith}
use Rattle.std.specs.Option.{option_map}
use Rattle.std.specs.Vec.{with_item}
use Rattle.std.proofs.Common.{Vec, Global}
use Rattle.std.proofs.lemmas.Option.{slice_get-get_or}
use Rattle.fm_registry_rules.specs.Lists.{items_of}
use Rattle.std.specs.List.{position_from}
use Rattle.std.specs.Str.{bytes_eq}
use Rattle.std.specs.String.{string_bytes}
use Rattle.fm_registry_rules.specs.Texts.{Text}
use Rattle.fm_registry_rules.specs.Tree.{Child, find_child}
use Rattle.fm_registry_rules.specs.inside.Forests.{nth_in, nth_name, with_nth, index_from, index_in}
use Rattle.fm_registry_rules.proofs.ForestLemmas.{index_in-IsIndex}
use Rattle.fm_core.specs.inside.TreeView.{forest_of}
use Rattle.fm_core.specs.declared.registry.tree.Subsystem.{Subsystem}

module _ {M : Type 0} where
  pub nth_in-forest_of : (ss : List (Subsystem M)) (i : ℕ) → nth_in (forest_of ss) i ≡ option_map (λ s. s.registry) (slice_get ss i)
  nth_in-forest_of [] i = refl
  nth_in-forest_of (s ∷ ss) zero = refl
  nth_in-forest_of (s ∷ ss) (suc i) = nth_in-forest_of ss i

  pub nth_name-forest_of : (ss : List (Subsystem M)) (i : ℕ) → nth_name (forest_of ss) i ≡ option_map (λ s. string_bytes s.name) (slice_get ss i)
  nth_name-forest_of [] i = refl
  nth_name-forest_of (s ∷ ss) zero = refl
  nth_name-forest_of (s ∷ ss) (suc i) = nth_name-forest_of ss i

  pub forest_of-slice_set : (ss : List (Subsystem M)) (i : ℕ) (w : Subsystem M) → forest_of (slice_set ss i w) ≡ with_nth (forest_of ss) i (string_bytes w.name) w.registry
  forest_of-slice_set [] i w = refl
  forest_of-slice_set (s ∷ ss) zero w = refl
  forest_of-slice_set (s ∷ ss) (suc i) w = ap (λ f. Child (string_bytes s.name) s.registry.facts s.registry.children f) (forest_of-slice_set ss i w)

  pub index_from-forest_of : (ss : List (Subsystem M)) (i : ℕ) (n : Text) → position_from (λ s. bytes_eq (string_bytes s.name) n) i ss ≡ index_from i (forest_of ss) n
  index_from-forest_of [] i n = refl
  index_from-forest_of (s ∷ ss) i n = ap (λ o. if bytes_eq (string_bytes s.name) n then Some i else o) (index_from-forest_of ss (i + 1) n)

  pub within-nth_in : (ss : List (Subsystem M)) (i : ℕ) → IsSome (nth_in (forest_of ss) i) → i < length ss
  within-nth_in [] i h = absurd (true≢false (sym h))
  within-nth_in (s ∷ ss) zero h = omega arith
  within-nth_in (s ∷ ss) (suc i) h = omega (arith, within-nth_in ss i h)

  pub forest_of-with_item : (o : Option (Vec (Subsystem M) Global)) (i : ℕ) (w : Subsystem M) → forest_of (items_of (option_map (λ items. with_item items i w) o)) ≡ with_nth (forest_of (items_of o)) i (string_bytes w.name) w.registry
  forest_of-with_item None i w = refl
  forest_of-with_item (Some v) i w = forest_of-slice_set v.items i w

  pub child-forest_of : (ss : List (Subsystem M)) (n : Text) (i : ℕ) (s : Subsystem M) → index_in (forest_of ss) n ≡ Some i → s ≡ get_or ss i s → Some s.registry ≡ find_child (forest_of ss) n
  child-forest_of ss n i s at is =
      let index = index_in-IsIndex (forest_of ss) n i at in
      sym (index.found ∙ nth_in-forest_of ss i ∙ ap (option_map (λ x. x.registry)) (slice_get-get_or ss i s (within-nth_in ss i index.there) ∙ ap Some (sym is)))
