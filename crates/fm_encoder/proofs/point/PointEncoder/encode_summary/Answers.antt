use Rattle.std.proofs.Common.{◌++◌, List, map, refl}
use Rattle.std.specs.Option.{option_map}
use Rattle.fm_grammar.specs.Exposition.{Label}
use Rattle.fm_grammar.specs.declared.SampleKind.TheVariants.{Count, Sum}
use Rattle.fm_encoder.specs.Points.{Setting, SummaryPoint, millis, created_samples, total_samples}
use Rattle.fm_encoder.specs.inside.Samples.{quantile_sample}
use Rattle.fm_labels.proofs.Cases.{none_from_answer}
use Rattle.fm_encoder.proofs.BucketLemmas.{PushesSamples-then, EmitsPoints-made}
use Rattle.fm_encoder.proofs.point.PointEncoder.encode_summary.Goals as goal

pub returns : goal.returns
returns c =
    let begins = c.begin_point.ensures.emitted in
    let begun_none = none_from_answer _ c.begin_point.ensures.returned c.in_ok-begin_point.was in
    let pushed = none_from_answer _ c.push_quantiles.ensures.returned c.in_ok-push_quantiles.was in
    let created = option_map millis c.args.created in
    let quantiles = c.args.quantiles.now in
    let totals = λ (s : Setting) (ls : List Label). total_samples s ls Count Sum c.args.count c.args.sum ++ created_samples s ls created in
    let begun = c.begin_point.new.self in
    let quantiles_pushed = rw (c.take_own-own.ensures) at c.push_quantiles.ensures.emitted in
    let totals_pushed = rw (c.keep_own.ensures) at c.push_totals.ensures.emitted in
    let all = PushesSamples-then (map (quantile_sample begun.setting begun.common) quantiles) totals begun _ _ quantiles_pushed pushed totals_pushed in
    rw (c.push_totals.ensures.returned) (record { emitted = EmitsPoints-made (SummaryPoint quantiles c.args.sum c.args.count created) (λ s ls. map (quantile_sample s ls) quantiles ++ totals s ls) _ _ begun _ begins.same begins.output begins.kept begun_none (begins.same_type begun_none) (begins.no_deferred begun_none) tt refl all; returned = refl })
