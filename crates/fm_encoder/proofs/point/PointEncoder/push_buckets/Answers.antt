use Rattle.std.proofs.Common.{[], MatchOption, sym, ap}
use Rattle.std.specs.Option.{option_map_or}
use Rattle.std.proofs.lemmas.Result.{err_from_is_err_and}
use Rattle.fm_labels.specs.Refusals.{result_of}
use Rattle.fm_encoder.proofs.BucketLemmas.{PushedFirst-more, PushesBuckets-refused}
use Rattle.fm_encoder.proofs.point.PointEncoder.push_buckets.Goals as goal

pub returns-in_err-values : goal.returns-in_err-values
returns-in_err-values g c =
    let refused = (rw c.in_err-values.was at c.push_bucket.ensures.returned).0 in
    let pushed = PushesBuckets-refused (λ slot. option_map_or (λ e. g.E.EncodeExemplar.exemplars e.now) slot []) (λ slot. MatchOption slot ⊥ (λ e. g.E.EncodeExemplar.may_fault e.now)) c.args.buckets.now c.args.exemplars.now c.loop-i.i _ _ c.index-buckets-i.result c.index-exemplars-i.result _ _ _ _ c.loop-i-test.true c.requires.slots c.index-buckets-i.is c.index-exemplars-i.is c.loop-i.invariant c.push_bucket.ensures c.in_err-values.was in
    let exit = err_from_is_err_and c.from_residual-in_err-values.result c.from_residual-in_err-values.ensures.1 in
    record { emitted = pushed; returned = rw (exit.1, exit.2) (sym (ap result_of refused)) }

pub loop-i-preserved : goal.loop-i-preserved
loop-i-preserved g c =
    PushedFirst-more (λ slot. option_map_or (λ e. g.E.EncodeExemplar.exemplars e.now) slot []) _ c.args.buckets.now c.args.exemplars.now c.loop-i.i _ _ c.index-buckets-i.result c.index-exemplars-i.result _ _ _ _ c.loop-i-test.true c.requires.slots c.index-buckets-i.is c.index-exemplars-i.is c.loop-i.invariant c.push_bucket.ensures c.in_ok-values.was
