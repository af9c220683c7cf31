-- A document of constants shows just the family of each.
use Rattle.std.proofs.Common.{◌≡◌, ℕ, List, [], ◌∷◌, map, Option, None, inl, inr, ap, subst, sym, ◌∙◌}
use Rattle.std.specs.List.{AllByRecursion}
use Rattle.fm_grammar.specs.declared.MetricType.{MetricType}
use Rattle.fm_grammar.specs.Exposition.{Text, Label, Sample, Family, Exposition}
use Rattle.fm_grammar.specs.Law.{IsDocumentOf}
use Rattle.fm_grammar.proofs.Spellings.{document_spelling}
use Rattle.fm_exposition.specs.inside.DocumentRows.{document_rows}
use Rattle.fm_exposition.proofs.RowLemmas.{document_is}
use Rattle.fm_registry_rules.specs.Registration.{printed_unit}
use Rattle.fm_registry_rules.specs.Listing.{Listed, listed_name}
use Rattle.fm_labels.specs.Labels.{EmittedLabel}
use Rattle.fm_labels.proofs.NameLemmas.{emitted_again-pairs}
use Rattle.fm_encoder.specs.Points.{Member, InfoPoint, members_samples}
use Rattle.fm_encoder.specs.Offers.{context_at, AdmitsSamples}
use Rattle.fm_encoder.specs.declared.metric.EncodeMetric.{Ghosts}
use Rattle.fm_core.specs.Admits.{IsFamilyOf, Admits}
use Rattle.fm_metrics.specs.Constants.{label_set_of}
use Rattle.fm_histogram.specs.Shown.{alone}
use Rattle.fastmetrics.specs.ConstantPages.{constant_point, IsConstant, constant_members, constant_family, constants_page}
use Rattle.fastmetrics.specs.declared.registry.kinds.constant.Constant.{Constant}
use Rattle.fastmetrics.specs.declared.registry.kinds.constant.Constant.TheVariants as constant
use Rattle.fastmetrics.specs.contracts.registry.kinds.constant.ConstantEncodeMetric.TheImpl.{ghosts as constants}
use Rattle.fastmetrics.specs.declared.registry.kinds.Metric.{Metric}
use Rattle.fastmetrics.specs.declared.registry.kinds.Metric.TheVariants as metric

-- a constant is never empty
pub constant_there : (x : Constant) → ¬ (constants.may_be_empty x)
constant_there (constant.Info x) = λ never. never
constant_there (constant.Counter x) = λ never. never
constant_there (constant.FixedCounter x) = λ never. never
constant_there (constant.Gauge x) = λ never. never
constant_there (constant.FixedGauge x) = λ never. never
constant_there (constant.Unknown x) = λ never. never
constant_there (constant.FixedUnknown x) = λ never. never
constant_there (constant.Histogram s) = λ never. never
constant_there (constant.GaugeHistogram s) = λ never. never

-- it has no timestamp
pub constant_time : (x : Constant) (stamp : Option ℕ) → constants.stamps x stamp → stamp ≡ None
constant_time (constant.Info x) stamp none = none
constant_time (constant.Counter x) stamp none = none
constant_time (constant.FixedCounter x) stamp none = none
constant_time (constant.Gauge x) stamp none = none
constant_time (constant.FixedGauge x) stamp none = none
constant_time (constant.Unknown x) stamp none = none
constant_time (constant.FixedUnknown x) stamp none = none
constant_time (constant.Histogram s) stamp none = none
constant_time (constant.GaugeHistogram s) stamp none = none

-- it offers just its point
pub constant_only : (x : Constant) (stamp : Option ℕ) (ms : List Member) → constants.offers x stamp ms → ms ≡ alone (constant_point x) ∷ []
constant_only (constant.Info x) stamp ms is = is ∙ ap (λ (ls : List EmittedLabel). alone (InfoPoint ls) ∷ []) (emitted_again-pairs (label_set_of x).items)
constant_only (constant.Counter x) stamp ms is = is
constant_only (constant.FixedCounter x) stamp ms is = is
constant_only (constant.Gauge x) stamp ms is = is
constant_only (constant.FixedGauge x) stamp ms is = is
constant_only (constant.Unknown x) stamp ms is = is
constant_only (constant.FixedUnknown x) stamp ms is = is
constant_only (constant.Histogram s) stamp ms is = is
constant_only (constant.GaugeHistogram s) stamp ms is = is

-- a family by its parts
family_is : (f g : Family) → f.name ≡ g.name → f.metric_type ≡ g.metric_type → f.help ≡ g.help → f.unit ≡ g.unit → f.samples ≡ g.samples → f ≡ g
family_is f g name type help unit samples =
    ap (λ (n : Text). record f { name = n }) name
    ∙ ap (λ (t : MetricType). record f { name = g.name; metric_type = t }) type
    ∙ ap (λ (h : Text). record f { name = g.name; metric_type = g.metric_type; help = h }) help
    ∙ ap (λ (u : Option Text). record { name = g.name; metric_type = g.metric_type; help = g.help; unit = u; samples = f.samples }) unit
    ∙ ap (λ (ss : List Sample). record { name = g.name; metric_type = g.metric_type; help = g.help; unit = g.unit; samples = ss }) samples

module _ {H X : Type 0} (declared : Ghosts (Metric H X)) (there : (x : Constant) → ¬ (declared.may_be_empty (metric.Constant x))) (time : (x : Constant) (stamp : Option ℕ) → declared.stamps (metric.Constant x) stamp → stamp ≡ None) (only : (x : Constant) (stamp : Option ℕ) (ms : List Member) → declared.offers (metric.Constant x) stamp ms → ms ≡ alone (constant_point x) ∷ []) where
  one_family : (l : Listed (Metric H X)) (family : Family) → IsConstant l → IsFamilyOf declared l family → family ≡ constant_family l
  one_family l family (x, same) (name, type, help, unit, (members, stamp, stamped, offered, valid, is)) =
      let r = l.registration in
      let none : stamp ≡ None = time x stamp (subst (λ m. declared.stamps m stamp) same stamped) in
      let all : members ≡ constant_members r.metric = only x stamp members (subst (λ m. declared.offers m stamp members) same offered) ∙ sym (ap constant_members same) in
      family_is family (constant_family l) name type help unit
      (is ∙ ap (λ (t : Option ℕ). members_samples (context_at (listed_name l) r.metric_type l.labels t) members) none
      ∙ ap (λ (ms : List Member). members_samples (context_at (listed_name l) r.metric_type l.labels None) ms) all)

  all_families : (ls : List (Listed (Metric H X))) (e : Exposition) → AllByRecursion IsConstant ls → Admits declared ls e → e ≡ map constant_family ls
  all_families [] e are admits = admits
  all_families (l ∷ ls) e are (inl left_out) = absurd (there are.0.0 (subst declared.may_be_empty are.0.1 left_out.0))
  all_families (l ∷ ls) e are (inr (family, rest, is, own, admits)) =
      is ∙ ap (λ (f : Family). f ∷ rest) (one_family l family are.0 own) ∙ ap (λ (fs : Exposition). constant_family l ∷ fs) (all_families ls rest are.1 admits)

  -- a text of these metrics is that of their families
  pub page_is : (ls : List (Listed (Metric H X))) (e : Exposition) (text : Text) → AllByRecursion IsConstant ls → Admits declared ls e → IsDocumentOf text e → text ≡ constants_page ls
  page_is ls e text are admits document =
      document_spelling text e document.document ∙ sym (document_is e) ∙ ap document_rows (all_families ls e are admits)
