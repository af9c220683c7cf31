use Rattle.std.proofs.Common.{◌≡◌, pos, List, refl}
use Rattle.std.specs.Option.{option_map}
use Rattle.fm_grammar.specs.declared.MetricType.{MetricType}
use Rattle.fm_grammar.specs.declared.MetricType.TheVariants as type
use Rattle.fm_grammar.specs.Exposition.{Text, Label, Whole, Fixed}
use Rattle.fm_grammar.specs.WellFormed.{AreLabels}
use Rattle.fm_raw.specs.declared.encode_error.EncodeError.{EncodeError}
use Rattle.fm_encoder.specs.Points.{millis}
use Rattle.fm_registry_rules.specs.Listing.{listed_name}
use Rattle.fm_metrics.specs.Counters.{counter_created}
use Rattle.fm_encoder.specs.Offers.{MetricHasFault}
use Rattle.fm_encoder.specs.declared.metric.EncodeMetric.{Ghosts}
use Rattle.fm_core.specs.Admits.{FaultOf}
use Rattle.fm_core.proofs.FittingLemmas.{one_of_fitting}
use Rattle.fastmetrics.specs.declared.registry.kinds.Metric.{Metric}
use Rattle.fastmetrics.specs.declared.registry.kinds.Metric.TheVariants as metric
use Rattle.fastmetrics.specs.declared.registry.kinds.named_family.NamedFamily.TheVariants as family
use Rattle.fastmetrics.specs.contracts.registry.kinds.MetricEncodeMetric.TheImpl.{ghosts}
use Rattle.fastmetrics.specs.inside.FittingMetrics.{FitsUnder, HasType, Fits}
use Rattle.fastmetrics.specs.Fits.{OwnFault}
use Rattle.fastmetrics.proofs.FaultLemmas.{vec_fits, counter_points, gauge_points, histogram_points, gauge_histogram_points, scalar_fits, histogram_fits, gauge_histogram_fits, states_fits, constant_fits, scalar_declares, constant_declares}
use Rattle.fastmetrics.proofs.registry.fitting.only_own_faults.Given.{Over}
use Rattle.fastmetrics.proofs.registry.fitting.only_own_faults.Goals as goal

module _ (g : Over) where
  -- what the metrics of a root declare
  abbrev declared : Ghosts (Metric g.row.H.Denot g.row.X.Denot)
  declared = ghosts g.row.H g.row.X g.H.Waiter g.H.Waiter-dict g.H.Wait g.H.Wait-dict g.H.Clone g.H.Clone-dict g.X.EncodeMetric g.X.EncodeMetric-dict g.X.Destruct-dict

  own_type : (m : Metric g.row.H.Denot g.row.X.Denot) (t : MetricType) → declared.types m t → HasType m t
  own_type (metric.Scalar x) t is = scalar_declares x t is
  own_type (metric.Histogram x) t is = is
  own_type (metric.GaugeHistogram x) t is = is
  own_type (metric.Family (family.Counters v)) t is = is
  own_type (metric.Family (family.FixedCounters v)) t is = is
  own_type (metric.Family (family.Gauges v)) t is = is
  own_type (metric.Family (family.FixedGauges v)) t is = is
  own_type (metric.Family (family.Histograms v)) t is = is
  own_type (metric.Family (family.GaugeHistograms v)) t is = is
  own_type (metric.States x) t is = is
  own_type (metric.Constant x) t is = constant_declares x t is
  own_type (metric.Own x) t is = tt

  -- a metric that fits has a fault only if it is the program's own
  by_kind : (k : EncodeError) (name : Text) (labels : List Label) (are : AreLabels labels) (t : MetricType) (m : Metric g.row.H.Denot g.row.X.Denot) → HasType m t → FitsUnder name labels m → MetricHasFault k (declared.offers m) (declared.stamps m) (declared.may_fault m) name t labels
      → (x : g.row.X.Denot) × (m ≡ metric.Own x) × MetricHasFault k (g.X.EncodeMetric.offers x) (g.X.EncodeMetric.stamps x) (g.X.EncodeMetric.may_fault x) name t labels
  by_kind k name labels are t (metric.Scalar x) same fit fault = absurd (scalar_fits k name labels are t x same fault)
  by_kind k name labels are t (metric.Histogram x) same fit fault = absurd (histogram_fits k name labels are t _ _ _ _ (λ own. own) same fit fault)
  by_kind k name labels are t (metric.GaugeHistogram x) same fit fault = absurd (gauge_histogram_fits k name labels are t _ _ _ (λ own. own) same fit fault)
  by_kind k name labels are t (metric.Family (family.Counters v)) same fit fault = absurd (vec_fits k name labels are t type.Counter _ _ _ _ (λ own. own.1.2) same fit.0 fit.1 (λ m points told. counter_points _ _ (λ total. Whole (pos total)) (option_map millis (counter_created m)) points told) fault)
  by_kind k name labels are t (metric.Family (family.FixedCounters v)) same fit fault = absurd (vec_fits k name labels are t type.Counter _ _ _ _ (λ own. own.1.2) same fit.0 fit.1 (λ m points told. counter_points _ _ Fixed (option_map millis (counter_created m)) points told) fault)
  by_kind k name labels are t (metric.Family (family.Gauges v)) same fit fault = absurd (vec_fits k name labels are t type.Gauge _ _ _ _ (λ own. own.1.2) same fit.0 fit.1 (λ m points told. gauge_points _ _ Whole points told) fault)
  by_kind k name labels are t (metric.Family (family.FixedGauges v)) same fit fault = absurd (vec_fits k name labels are t type.Gauge _ _ _ _ (λ own. own.1.2) same fit.0 fit.1 (λ m points told. gauge_points _ _ Fixed points told) fault)
  by_kind k name labels are t (metric.Family (family.Histograms v)) same fit fault = absurd (vec_fits k name labels are t type.Histogram _ _ _ _ (λ own. own.1) same fit.0 fit.1 (λ m points told. histogram_points _ _ points told) fault)
  by_kind k name labels are t (metric.Family (family.GaugeHistograms v)) same fit fault = absurd (vec_fits k name labels are t type.GaugeHistogram _ _ _ _ (λ own. own.1) same fit.0 fit.1 (λ m points told. gauge_histogram_points _ points told) fault)
  by_kind k name labels are t (metric.States x) same fit fault = absurd (states_fits k name labels are t _ _ (λ s. s) _ _ (λ own. own) same fit fault)
  by_kind k name labels are t (metric.Constant x) same fit fault = absurd (constant_fits k name labels are t x same fit fault)
  by_kind k name labels are t (metric.Own x) same fit fault = (x, refl, fault)

pub returns-clause-types : goal.returns-clause-types
returns-clause-types g c m t is = own_type g m t is

pub returns-clause-faults : goal.returns-clause-faults
returns-clause-faults g c k t sound faults = record {
  history = sound.history;
  shown = sound.reads.shows;
  fault = λ b shows. one_of_fitting (FaultOf (declared g) k) (OwnFault g.X.EncodeMetric k) Fits
      (λ l listable fit. by_kind g k _ l.labels listable.labels l.registration.metric_type l.registration.metric fit.0 fit.1) t b sound shows (faults b shows);
}

pub returns-clause-named : goal.returns-clause-named
returns-clause-named g c k t name sound faults = record {
  history = sound.history;
  shown = sound.reads.shows;
  fault = λ b shows. one_of_fitting (λ l. (name ≡ listed_name l) × FaultOf (declared g) k l) (λ l. (name ≡ listed_name l) × OwnFault g.X.EncodeMetric k l) Fits
      (λ l listable fit here. (here.0, by_kind g k _ l.labels listable.labels l.registration.metric_type l.registration.metric fit.0 fit.1 here.1)) t b sound shows (faults b shows);
}
