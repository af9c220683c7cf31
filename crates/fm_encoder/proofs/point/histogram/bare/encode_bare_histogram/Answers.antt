use Rattle.std.proofs.Common.{[], ◌++◌, map, refl}
use Rattle.std.specs.Option.{option_map}
use Rattle.fm_grammar.specs.declared.SampleKind.TheVariants.{Count, Sum}
use Rattle.std.proofs.lemmas.List.{length-map}
use Rattle.fm_encoder.specs.Points.{HistogramPoint, millis, created_samples, total_samples}
use Rattle.fm_labels.proofs.Cases.{none_from_answer}
use Rattle.fm_encoder.proofs.BucketLemmas.{EmitsPoints-buckets}
use Rattle.fm_encoder.proofs.point.histogram.bare.encode_bare_histogram.Goals as goal

pub returns : goal.returns
returns c =
    let begun = none_from_answer _ c.begin_buckets.ensures.returned c.in_ok-begin_buckets.was in
    let pushed = none_from_answer _ c.push_bare_buckets.ensures.returned c.in_ok-push_bare_buckets.was in
    let created = option_map millis c.args.created in
    let slots = map (λ _. []) c.args.buckets.now in
    let point = HistogramPoint c.args.buckets.now slots c.args.count c.args.sum created in
    rw (c.push_totals.ensures.returned) (record { emitted = EmitsPoints-buckets point (λ s ls. total_samples s ls Count Sum c.args.count c.args.sum ++ created_samples s ls created) c.args.buckets.now slots _ _ _ _ _ _ (λ _ valid. valid) (λ _. refl) (length-map c.args.buckets.now _) c.begin_buckets.ensures.emitted begun c.push_bare_buckets.ensures.emitted pushed c.push_totals.ensures.emitted; returned = refl })
