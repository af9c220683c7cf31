use Rattle.std.proofs.Common.{◌≡◌}
use Rattle.std.specs.Option.{option_map}
use Rattle.fm_grammar.specs.declared.MetricType.TheVariants as type
use Rattle.fm_grammar.specs.LabelPairs.{labels_of}
use Rattle.fm_raw.specs.Units.{seen_unit}
use Rattle.fm_registry_rules.specs.Texts.{printed_name}
use Rattle.fm_registry_rules.specs.Registration.{printed_unit}
use Rattle.fastmetrics.specs.Fits.{taken_refusal, type_refusal, family_refusal, family_type, family_names}
use Rattle.fastmetrics.proofs.FitLemmas.{ok_fits, not_taken, none_reserved, family_fits}
use Rattle.fastmetrics.proofs.registry.fitting.Place.test.Goals as goal

pub returns-in-Family-clause-fits : goal.returns-in-Family-clause-fits
returns-in-Family-clause-fits g c =
    let labels = labels_of c.args.self.now.labels.now in let f = c.in-Family.family in
    rw c.in-Family.is (ok_fits c.test_family.result (family_refusal labels (family_type f) (family_names f)) _ c.test_family.ensures.answer (family_fits (family_type f) labels (family_names f) c.test_family.ensures.valid))

pub returns-in-States-clause-fits : goal.returns-in-States-clause-fits
returns-in-States-clause-fits g c =
    let labels = labels_of c.args.self.now.labels.now in
    let name = printed_name (option_map (λ n. n.now) c.args.self.now.namespace) c.args.name.now (printed_unit (option_map seen_unit c.args.unit.now)) in
    rw c.in-States.is (ok_fits c.test_states.result (taken_refusal labels name) _ c.test_states.ensures (not_taken labels name))

pub returns-in-Histogram-clause-fits : goal.returns-in-Histogram-clause-fits
returns-in-Histogram-clause-fits g c =
    let labels = labels_of c.args.self.now.labels.now in
    rw c.in-Histogram.is (ok_fits c.test_type.result (type_refusal type.Histogram labels) _ c.test_type.ensures (none_reserved type.Histogram labels))

pub returns-in-GaugeHistogram-clause-fits : goal.returns-in-GaugeHistogram-clause-fits
returns-in-GaugeHistogram-clause-fits g c =
    let labels = labels_of c.args.self.now.labels.now in
    rw c.in-GaugeHistogram.is (ok_fits c.test_type-in-GaugeHistogram.result (type_refusal type.GaugeHistogram labels) _ c.test_type-in-GaugeHistogram.ensures (none_reserved type.GaugeHistogram labels))
