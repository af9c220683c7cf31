-- The metrics of a registry, as a map by their tails.
use Rattle.std.proofs.Common.{◌≡◌, ◌≢◌, ℕ, zero, suc, Bool, true, false, ◌||◌, List, [], ◌∷◌, Option, None, Some, is_some, slice_get, cond, if◌then◌else◌, refl, sym, ap, ◌∙◌, true≢false}
use Rattle.std.specs.Prelude.{position}
use Rattle.std.specs.Bool.{Decides}
use Rattle.std.specs.List.{AllByRecursion, IsDistinct, list_any}
use Rattle.std.specs.Str.{bytes_eq}
use Rattle.std.specs.String.{string_bytes}
use Rattle.std.specs.Map.{lookup, keys_of}
use Rattle.std.proofs.lemmas.Bool.Decides.{Decides-like, same_from_decides}
use Rattle.std.proofs.lemmas.List.Quantifiers.{position-Some}
use Rattle.std.proofs.lemmas.Option.{get_or_from_slice_get}
use Rattle.std.proofs.lemmas.Slice.Eq.{bytes_eq-Decides}
use Rattle.fm_grammar.specs.Names.{AllDifferent}
use Rattle.fm_raw.specs.declared.metadata.Metadata.{Metadata}
use Rattle.fm_registry_rules.specs.Texts.{Text, has_text}
use Rattle.fm_registry_rules.specs.Registration.{Registration, is_same_metric}
use Rattle.fm_registry_rules.specs.Taken.{tail_of, tails_of, is_below}
use Rattle.fm_registry_rules.specs.Tree.{names_in}
use Rattle.fm_registry_rules.specs.Answer.{AlreadyExists, NameTaken, first_of, has_metric}
use Rattle.fm_registry_rules.specs.inside.Refusals.{standing_refusal}
use Rattle.fm_registry_rules.proofs.MetricLemmas.{one_under_tail, absent_under_tail}
use Rattle.fm_registry_rules.specs.inside.Names.{refusal_beside}
use Rattle.fm_core.specs.View.{seen_metric}
use Rattle.fm_core.specs.inside.TreeView.{seen_metrics, forest_of}
use Rattle.fm_registry_rules.specs.declared.names.Tailed.{Tailed}
use Rattle.fm_core.specs.declared.registry.tree.Subsystem.{Subsystem}
use Rattle.fm_registry_rules.specs.contracts.names.TailedPartialEq.TheImpl as key

-- keys are equal if their tails are
tails_decide : (a b : Tailed) → Decides (key.ghosts.eq a b) (string_bytes a.tail ≡ string_bytes b.tail)
tails_decide a b = bytes_eq-Decides (string_bytes a.tail) (string_bytes b.tail)

module _ {M : Type 0} where
  tail_test : (k e : Tailed) (x : M) → bytes_eq (tail_of (seen_metric e.metadata x)) (string_bytes k.tail) ≡ key.ghosts.eq k e
  tail_test k e x =
      same_from_decides {P = string_bytes k.tail ≡ string_bytes e.tail} (bytes_eq (tail_of (seen_metric e.metadata x)) (string_bytes k.tail)) (key.ghosts.eq k e)
      (Decides-like (bytes_eq (tail_of (seen_metric e.metadata x)) (string_bytes k.tail)) (λ h. sym h ∙ sym e.fits) (λ h. sym e.fits ∙ sym h) (bytes_eq-Decides (tail_of (seen_metric e.metadata x)) (string_bytes k.tail)))
      (tails_decide k e)

  -- a tail is there if the map has its key
  has_tail : (es : List (Tailed × M)) (k : Tailed) → has_text (tails_of (seen_metrics es)) (string_bytes k.tail) ≡ is_some (lookup (key.ghosts.eq k) es)
  has_tail [] k = refl
  has_tail (e ∷ es) k =
      ap (λ c. if c then true else has_text (tails_of (seen_metrics es)) (string_bytes k.tail)) (tail_test k e.0 e.1)
      ∙ elim (key.ghosts.eq k e.0) as (λ c. (if c then true else has_text (tails_of (seen_metrics es)) (string_bytes k.tail)) ≡ is_some (cond c (Some e.1) (lookup (key.ghosts.eq k) es)))
      [ true ↦ refl | false ↦ has_tail es k ]

  has_own_tail : (es : List (Tailed × M)) (k : Tailed) (x : M) → has_text (tails_of (seen_metrics es)) (tail_of (seen_metric k.metadata x)) ≡ is_some (lookup (key.ghosts.eq k) es)
  has_own_tail es k x = ap (λ t. has_text (tails_of (seen_metrics es)) t) (sym k.fits) ∙ has_tail es k

  -- the keys of a map differ, so the tails do
  others_differ : (k : Tailed) (x : M) (es : List (Tailed × M)) → AllByRecursion (λ y. key.ghosts.eq k y ≡ false) (keys_of es) → AllByRecursion (λ other. other ≢ tail_of (seen_metric k.metadata x)) (tails_of (seen_metrics es))
  others_differ k x [] h = tt
  others_differ k x (e ∷ es) h = ((λ same. true≢false (sym ((tails_decide k e.0).1 (k.fits ∙ sym same ∙ sym e.0.fits)) ∙ h.0)), others_differ k x es h.1)

  different : (es : List (Tailed × M)) → IsDistinct key.ghosts.eq (keys_of es) → AllDifferent (tails_of (seen_metrics es))
  unfolding IsDistinct
  different [] h = tt
  different (e ∷ es) h = (others_differ e.0 e.1 es h.0, different es h.1)

  entry_at : (es : List (Tailed × M)) (i : ℕ) (e : Tailed × M) → slice_get es i ≡ Some e → (slice_get (seen_metrics es) i ≡ Some (seen_metric e.0.metadata e.1)) × (slice_get (keys_of es) i ≡ Some e.0)
  entry_at [] i e at = absurd (nothing at)
    where
      nothing : None ≡ Some e → ⊥
      nothing h = cc
  entry_at (x ∷ es) zero e at = (ap (λ o. seen o) at, ap (λ o. key_of o) at)
    where
      seen : Option (Tailed × M) → Option (Registration M)
      seen None = None
      seen (Some p) = Some (seen_metric p.0.metadata p.1)

      key_of : Option (Tailed × M) → Option Tailed
      key_of None = None
      key_of (Some p) = Some p.0
  entry_at (x ∷ es) (suc i) e at = entry_at es i e at

  -- the metadata that others have under this tail decide whether these exist
  pub under_tail : (es : List (Tailed × M)) (k : Tailed) (i : ℕ) (e : Tailed × M) → IsDistinct key.ghosts.eq (keys_of es) → position (key.ghosts.eq k) (keys_of es) ≡ Some i → slice_get es i ≡ Some e
      → (x : M) → has_metric (seen_metrics es) (seen_metric k.metadata x) ≡ is_same_metric (seen_metric k.metadata x) (seen_metric e.0.metadata x)
  under_tail es k i e distinct index at x =
      let ats = entry_at es i e at in
      let found : key.ghosts.eq k e.0 ≡ true = ap (λ t. key.ghosts.eq k t) (sym (get_or_from_slice_get (keys_of es) i e.0 e.0 ats.1)) ∙ (position-Some (key.ghosts.eq k) (keys_of es) i e.0 index).1 in
      one_under_tail (seen_metrics es) (seen_metric k.metadata x) (seen_metric e.0.metadata e.1) i (different es distinct) ats.0 (sym e.0.fits ∙ sym ((tails_decide k e.0).0 found) ∙ k.fits)

  -- if nothing has the tail
  pub beside_none : (es : List (Tailed × M)) (k : Tailed) (x : M) (below : Bool) → lookup (key.ghosts.eq k) es ≡ None
      → refusal_beside (seen_metrics es) below (seen_metric k.metadata x) ≡ first_of ((below, NameTaken (string_bytes k.metadata.name)) ∷ [])
  beside_none es k x below none =
      let absent : has_text (tails_of (seen_metrics es)) (tail_of (seen_metric k.metadata x)) ≡ false = has_own_tail es k x ∙ ap is_some none in
      let missing : has_metric (seen_metrics es) (seen_metric k.metadata x) ≡ false = absent_under_tail (seen_metrics es) (seen_metric k.metadata x) absent in
      λ j. first_of ((missing j, AlreadyExists (string_bytes k.metadata.name)) ∷ (absent j || below, NameTaken (string_bytes k.metadata.name)) ∷ [])

  -- where a metric does
  pub beside_one : (es : List (Tailed × M)) (k : Tailed) (x : M) (below same : Bool) → is_some (lookup (key.ghosts.eq k) es) ≡ true → has_metric (seen_metrics es) (seen_metric k.metadata x) ≡ same
      → refusal_beside (seen_metrics es) below (seen_metric k.metadata x) ≡ first_of ((same, AlreadyExists (string_bytes k.metadata.name)) ∷ (true, NameTaken (string_bytes k.metadata.name)) ∷ [])
  beside_one es k x below same some is =
      λ j. first_of ((is j, AlreadyExists (string_bytes k.metadata.name)) ∷ ((has_own_tail es k x ∙ some) j || below, NameTaken (string_bytes k.metadata.name)) ∷ [])

  -- what is in a registry refuses what its metrics and the names of its subsystems refuse
  pub beside_standing : (there : List (Registration M)) (children : List Text) (k : Tailed) (metadata : Metadata) (x : M) (tail : Text) (below : Bool) → k.metadata ≡ metadata → tail ≡ string_bytes k.tail → below ≡ list_any (λ child. is_below child tail) children
      → refusal_beside there below (seen_metric k.metadata x) ≡ standing_refusal there children (seen_metric metadata x)
  beside_standing there children k metadata x tail below named is lies =
      ap (λ c. refusal_beside there c (seen_metric k.metadata x)) (lies ∙ ap (λ t. list_any (λ child. is_below child t) children) (is ∙ k.fits))
      ∙ ap (λ m. standing_refusal there children (seen_metric m x)) named

  -- the tails of a map's keys are those of its metrics
  pub any_tail : (test : Text → Bool) (es : List (Tailed × M)) → list_any (λ (k : Tailed). test (string_bytes k.tail)) (keys_of es) ≡ list_any test (tails_of (seen_metrics es))
  any_tail test [] = refl
  any_tail test (e ∷ es) = λ j. test (e.0.fits j) || any_tail test es j

  -- the names of subsystems
  pub any_child : (test : Text → Bool) (ss : List (Subsystem M)) → list_any (λ (s : Subsystem M). test (string_bytes s.name)) ss ≡ list_any test (names_in (forest_of ss))
  any_child test [] = refl
  any_child test (s ∷ ss) = ap (λ c. test (string_bytes s.name) || c) (any_child test ss)
