use Rattle.std.proofs.Common.{◌≡◌, [], ◌∷◌, ◌++◌, None, refl, sym, ap, subst, arith}
use Rattle.fm_encoder.specs.inside.BucketSteps.{HasBuckets}
use Rattle.fm_encoder.specs.Gathered.{GatheredPoints}
use Rattle.fm_labels.specs.Refusals.{result_of}
use Rattle.fm_encoder.specs.Points.{bound_label}
use Rattle.fm_labels.proofs.NameLemmas.{AreLabels-own}
use Rattle.fm_encoder.proofs.BucketLemmas.{le_is_reserved, le_is_label_name, IsSample-bucket}
use Rattle.fm_encoder.proofs.point.PointEncoder.push_bound.Goals as goal

pub returns : goal.returns
returns c =
    let common = c.self.inside.labels.labels in
    let label = bound_label c.args.bucket.now.upper_bound in
    let buckets : HasBuckets c.self.inside.labels.metric_type = subst (λ (p : GatheredPoints). HasBuckets p.setting.metric_type) (sym c.self.view_is) c.requires.buckets in
    let accepting : c.self.inside.refused.error ≡ None = subst (λ (p : GatheredPoints). p.refused ≡ None) (sym c.self.view_is) c.requires.accepting in
    let labels = AreLabels-own _ common (common ++ label ∷ []) label c.self.invariant.labels c.self.invariant.free (le_is_reserved _ buckets) le_is_label_name refl in
    let formed = IsSample-bucket _ _ c.args.values _ c.args.exemplar buckets labels (omega arith) c.self.invariant.time c.requires.exemplar in
    let pushed = rw (c.as_str.ensures.value, c.text.ensures, c.count_value.ensures.value, c.in-Ok.ensures) at c.in-Ok-keep.ensures.pushed in
    rw (← c.self.view_is) (record {
      emitted = record {
        same = record { setting = refl; common = refl; deferred = refl };
        formed = λ _. formed;
        output = λ _. pushed;
        refused = λ k is. absurd cc;
      };
      returned = sym (ap result_of accepting);
    })
