-- When two metrics of a registry are the same.
use Rattle.std.proofs.Common.{◌≡◌, Bool, true, false, ◌&&◌, List, [], ◌∷◌, ◌++◌, Option, None, Some, refl, ap}
use Rattle.std.specs.Bool.{Decides}
use Rattle.std.specs.Option.{option_map}
use Rattle.std.specs.String.{string_bytes}
use Rattle.std.specs.Str.{bytes_eq}
use Rattle.std.proofs.lemmas.Bool.Decides.{Decides-and, Decides-like, Decides-at, same_from_decides}
use Rattle.std.proofs.lemmas.Slice.Eq.{bytes_eq-Decides}
use Rattle.std.proofs.lemmas.List.{map-append}
use Rattle.fm_grammar.specs.contracts.MetricTypePartialEq.TheImpl as types
use Rattle.fm_raw.specs.Units.{SeenUnit, seen_unit}
use Rattle.fm_raw.specs.Metadata.{IsSameMetric}
use Rattle.fm_raw.specs.declared.metadata.Metadata.{Metadata}
use Rattle.fm_raw.proofs.MetadataLemmas.{types_decide}
use Rattle.fm_registry_rules.specs.Registration.{is_same_metric, same_type, same_bool, same_unit}
use Rattle.fm_registry_rules.proofs.MetricLemmas as history
use Rattle.fm_core.specs.View.{seen_metric}
use Rattle.fm_core.specs.inside.TreeView.{seen_metrics}
use Rattle.fm_registry_rules.specs.declared.names.Tailed.{Tailed}

-- units

same_bool-Decides : (a b : Bool) → Decides (same_bool a b) (a ≡ b)
same_bool-Decides true true = (λ e. refl, λ e. refl)
same_bool-Decides true false = (λ e. absurd (cc), λ e. absurd (cc))
same_bool-Decides false true = (λ e. absurd (cc), λ e. absurd (cc))
same_bool-Decides false false = (λ e. refl, λ e. refl)

one_unit : (u v : SeenUnit) → (u.own ≡ v.own) × (u.text ≡ v.text) → u ≡ v
one_unit u v h = λ i. record { own = h.0 i; text = h.1 i }

unit-Decides : (u v : SeenUnit) → Decides (same_bool u.own v.own && bytes_eq u.text v.text) (u ≡ v)
unit-Decides u v =
    Decides-like (same_bool u.own v.own && bytes_eq u.text v.text) (one_unit u v) (λ e. (ap (λ s. s.own) e, ap (λ s. s.text) e))
    (Decides-and (same_bool u.own v.own) (bytes_eq u.text v.text) (same_bool-Decides u.own v.own) (bytes_eq-Decides u.text v.text))

same_unit-Decides : (u v : Option SeenUnit) → Decides (same_unit u v) (u ≡ v)
same_unit-Decides None None = (λ e. refl, λ e. refl)
same_unit-Decides None (Some v) = (λ e. absurd (cc), λ e. absurd (cc))
same_unit-Decides (Some u) None = (λ e. absurd (cc), λ e. absurd (cc))
same_unit-Decides (Some u) (Some v) = Decides-like (same_bool u.own v.own && bytes_eq u.text v.text) (λ e. ap Some e) (λ e. cc) (unit-Decides u v)

-- metrics

module _ {M : Type 0} where
  same_metric-Decides : (a b : Metadata) (x y : M) → Decides (is_same_metric (seen_metric a x) (seen_metric b y)) (IsSameMetric a b)
  same_metric-Decides a b x y =
      let types : Decides (same_type a.metric_type b.metric_type) (a.metric_type ≡ b.metric_type) =
      Decides-at (same_type a.metric_type b.metric_type) (types.ghosts.eq a.metric_type b.metric_type) (history.same_type-eq a.metric_type b.metric_type) (types_decide a.metric_type b.metric_type) in
      let parts = Decides-and (bytes_eq (string_bytes a.name) (string_bytes b.name)) (same_type a.metric_type b.metric_type && same_unit (option_map seen_unit a.unit) (option_map seen_unit b.unit))
      (bytes_eq-Decides (string_bytes a.name) (string_bytes b.name))
      (Decides-and (same_type a.metric_type b.metric_type) (same_unit (option_map seen_unit a.unit) (option_map seen_unit b.unit)) types (same_unit-Decides (option_map seen_unit a.unit) (option_map seen_unit b.unit))) in
      Decides-like (is_same_metric (seen_metric a x) (seen_metric b y)) (λ h. (h.0, h.1.0, h.1.1)) (λ h. (h.0, (h.1, h.2))) parts

  -- metrics are the same if their metadata are found to be
  pub same_metric-test : (a b : Metadata) (x : M) (c : Bool) → Decides c (IsSameMetric a b) → is_same_metric (seen_metric a x) (seen_metric b x) ≡ c
  same_metric-test a b x c decides = same_from_decides {P = IsSameMetric a b} (is_same_metric (seen_metric a x) (seen_metric b x)) c (same_metric-Decides a b x x) decides

  -- one metric more
  pub seen_metrics-push : (es : List (Tailed × M)) (k : Tailed) (x : M) → seen_metrics (es ++ (k, x) ∷ []) ≡ seen_metrics es ++ seen_metric k.metadata x ∷ []
  seen_metrics-push es k x = map-append (λ (e : Tailed × M). seen_metric e.0.metadata e.1) es ((k, x) ∷ [])
