use Rattle.std.proofs.Common.{◌∷◌, [], pos, ap, subst, sym}
use Rattle.fm_grammar.specs.declared.MetricType.{MetricType}
use Rattle.fm_grammar.specs.Exposition.{Whole, Fixed}
use Rattle.fm_exposition.specs.Samples.{value_of}
use Rattle.fm_encoder.specs.Points.{Setting, plain_sample}
use Rattle.fm_encoder.specs.inside.BucketSteps.{HasTotals}
use Rattle.fm_labels.proofs.Cases.{none_from_answer}
use Rattle.fm_encoder.proofs.BucketLemmas.{FitsType-count, FitsType-sum, PushesSamples-after, PushesSamples-one}
use Rattle.fm_encoder.proofs.point.PointEncoder.push_count_and_sum.Goals as goal

pub push_sample-requires-clause-fits : goal.push_sample-requires-clause-fits
push_sample-requires-clause-fits c =
    FitsType-count _ _ _ _ c.args.count c.requires.kinds (ap value_of c.count_value.ensures.value) c.count_value.ensures.fits

pub push_sample-requires-2-clause-fits : goal.push_sample-requires-2-clause-fits
push_sample-requires-2-clause-fits c =
    let same = ap (λ (s : Setting). s.metric_type) c.push_sample.ensures.emitted.same.setting in
    let kinds = subst (λ (type : MetricType). HasTotals type c.args.of_count c.args.of_sum) (sym same) c.requires.kinds in
    FitsType-sum _ _ _ _ c.args.sum kinds (ap value_of c.sum_value.ensures.value) c.sum_value.ensures.fits

pub returns : goal.returns
returns c =
    let counted = none_from_answer _ c.push_sample.ensures.returned c.in_ok-push_sample.was in
    let after_count = c.push_sample.new.self in
    let sum_is = ap (λ v. plain_sample after_count.setting after_count.common c.args.of_sum [] (value_of v)) c.sum_value.ensures.value in
    let summed = PushesSamples-one _ _ after_count _ c.push_sample-2.ensures.emitted sum_is in
    let count_is = ap (λ v. plain_sample c.args.self.now.setting c.args.self.now.common c.args.of_count [] (value_of v)) c.count_value.ensures.value in
    record {
      emitted = PushesSamples-after (λ s ls. plain_sample s ls c.args.of_count [] (Whole (pos c.args.count))) (λ s ls. plain_sample s ls c.args.of_sum [] (Fixed c.args.sum) ∷ []) _ c.args.self.now _ _ c.push_sample.ensures.emitted counted summed count_is;
      returned = c.push_sample-2.ensures.returned;
    }
