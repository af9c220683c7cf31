use Rattle.std.proofs.Common.{◌≡◌, ◌<◌, ◌^◌, ℕ, List, String, Global, map, ap, subst, ◌∙◌}
use Rattle.fm_grammar.specs.declared.MetricType.TheVariants as type
use Rattle.fm_grammar.specs.LabelPairs.{labels_of}
use Rattle.fm_registry_rules.specs.Answer.{refusal_of}
use Rattle.fm_registry_rules.specs.LabelNames.{IsOrMemory}
use Rattle.fm_encoder.specs.Points.{values_in}
use Rattle.fm_metrics.specs.Constants.{label_set_of}
use Rattle.fastmetrics.specs.Fits.{facts_refusal, type_refusal}
use Rattle.fastmetrics.proofs.FitLemmas.{ok_fits, none_reserved, facts_fit}
use Rattle.fastmetrics.proofs.registry.fitting.test_constant.Goals as goal

pub returns-in-Info-clause-fits : goal.returns-in-Info-clause-fits
returns-in-Info-clause-fits c =
    let labels = labels_of c.args.labels.now in let r = c.test_facts.result in
    let names = map (λ label. label.name) (labels_of (label_set_of c.in-Info.info).items) in
    let same = c.as_slice.ensures.value ∙ ap (λ v. v.items) c.get.ensures in
    let answer = subst (λ (facts : List (String Global × String Global)). IsOrMemory (refusal_of r) (facts_refusal labels (map (λ label. label.name) (labels_of facts)))) same c.test_facts.ensures in
    rw c.in-Info.is (ok_fits r (facts_refusal labels names) _ answer (facts_fit labels names))

pub returns-in-Histogram-clause-fits : goal.returns-in-Histogram-clause-fits
returns-in-Histogram-clause-fits c =
    let labels = labels_of c.args.labels.now in let few : values_in c.in-Histogram.snapshot.buckets < 2 ^ 64 = rw c.count.ensures.all c.count.ensures.few in
    rw c.in-Histogram.is (ok_fits c.test_type.result (type_refusal type.Histogram labels) _ c.test_type.ensures (λ none. (none_reserved type.Histogram labels none, few)))

pub returns-in-GaugeHistogram-clause-fits : goal.returns-in-GaugeHistogram-clause-fits
returns-in-GaugeHistogram-clause-fits c =
    let labels = labels_of c.args.labels.now in let few : values_in c.in-GaugeHistogram.snapshot.buckets < 2 ^ 64 = rw c.gcount.ensures.all c.gcount.ensures.few in
    rw c.in-GaugeHistogram.is (ok_fits c.test_type-in-GaugeHistogram.result (type_refusal type.GaugeHistogram labels) _ c.test_type-in-GaugeHistogram.ensures (λ none. (none_reserved type.GaugeHistogram labels none, few)))
