use Rattle.std.proofs.Common.{[], refl, sym, ap}
use Rattle.std.proofs.lemmas.Result.{err_from_is_err_and}
use Rattle.fm_labels.specs.Refusals.{result_of}
use Rattle.fm_encoder.proofs.BucketLemmas.{PushedFirst-more, PushesBuckets-refused, PushesBuckets-never}
use Rattle.fm_encoder.proofs.point.histogram.bare.push_bare_buckets.Goals as goal

pub returns-in_err-values : goal.returns-in_err-values
returns-in_err-values c =
    let refused = (rw c.in_err-values.was at c.push_bucket.ensures.returned).0 in
    let pushed = PushesBuckets-never _ _ _ _ (λ fault. fault.2)
    (PushesBuckets-refused (λ _. []) (λ _. ⊥) c.args.buckets.now c.args.buckets.now c.loop-i.i _ _ c.index-buckets-i.result c.index-buckets-i.result _ _ _ _ c.loop-i-test.true refl c.index-buckets-i.is c.index-buckets-i.is c.loop-i.invariant c.push_bucket.ensures c.in_err-values.was) in
    let exit = err_from_is_err_and c.from_residual-in_err-values.result c.from_residual-in_err-values.ensures.1 in
    record { emitted = pushed; returned = rw (exit.1, exit.2) (sym (ap result_of refused)) }

pub loop-i-preserved : goal.loop-i-preserved
loop-i-preserved c =
    PushedFirst-more (λ _. []) _ c.args.buckets.now c.args.buckets.now c.loop-i.i _ _ c.index-buckets-i.result c.index-buckets-i.result _ _ _ _ c.loop-i-test.true refl c.index-buckets-i.is c.index-buckets-i.is c.loop-i.invariant c.push_bucket.ensures c.in_ok-values.was
