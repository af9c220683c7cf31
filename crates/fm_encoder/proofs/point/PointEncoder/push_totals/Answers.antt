use Rattle.std.proofs.Common.{◌≡◌, ◌⊎◌, Some, inl, inr, refl, ap, subst, sym, arith, Contains}
use Rattle.fm_grammar.specs.declared.MetricType.{MetricType}
use Rattle.fm_grammar.specs.declared.MetricType.TheVariants.{Histogram, Summary}
use Rattle.fm_grammar.specs.declared.SampleKind.TheVariants.{Count, Sum, Created}
use Rattle.fm_grammar.specs.WellFormed.{kinds_of}
use Rattle.fm_encoder.specs.Points.{Setting, millis, total_samples, created_samples}
use Rattle.fm_labels.proofs.Cases.{none_from_answer}
use Rattle.fm_encoder.proofs.BucketLemmas.{PushesSamples-then}
use Rattle.fm_encoder.proofs.point.PointEncoder.push_totals.Goals as goal

type_has_created : (type : MetricType) → (type ≡ Histogram) ⊎ (type ≡ Summary) → Contains (kinds_of type) Created
type_has_created type (inl is) = subst (λ (t : MetricType). Contains (kinds_of t) Created) (sym is) (3, omega arith, refl)
type_has_created type (inr is) = subst (λ (t : MetricType). Contains (kinds_of t) Created) (sym is) (3, omega arith, refl)

pub push_count_and_sum-requires-clause-kinds : goal.push_count_and_sum-requires-clause-kinds
push_count_and_sum-requires-clause-kinds c = inl (c.requires.has_created, refl, refl)

pub push_created-requires-clause-kind : goal.push_created-requires-clause-kind
push_created-requires-clause-kind c =
    let same = ap (λ (s : Setting). s.metric_type) c.push_count_and_sum.ensures.emitted.same.setting in
    type_has_created _ (subst (λ (t : MetricType). (t ≡ Histogram) ⊎ (t ≡ Summary)) (sym same) c.requires.has_created)

pub returns-in-Some : goal.returns-in-Some
returns-in-Some c =
    let old = c.args.self.now in
    let pushed = none_from_answer _ c.push_count_and_sum.ensures.returned c.in_ok-push_count_and_sum.was in
    let totals = total_samples old.setting old.common Count Sum c.args.count c.args.sum in
    let all = PushesSamples-then totals (λ s ls. created_samples s ls (Some (millis c.in-Some.created))) old _ _ c.push_count_and_sum.ensures.emitted pushed c.push_created.ensures.emitted in
    record {
      emitted = rw (c.in-Some.is) all;
      returned = c.push_created.ensures.returned;
    }
