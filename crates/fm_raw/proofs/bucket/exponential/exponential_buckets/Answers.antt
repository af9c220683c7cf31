use Rattle.std.proofs.Common.{◌*◌, ◌-◌, ◌^◌, ◌<◌, arith, rules}
use Rattle.fm_raw.proofs.ExponentialLemmas.{all_fit}
use Rattle.fm_raw.proofs.bucket.exponential.exponential_buckets.Goals as goal

pub invariant_of-result : goal.invariant_of-result
invariant_of-result c =
    let last : c.unsigned_abs-next.result * c.args.factor ^ (c.args.count - 1) < 9223372036854775808 = search rules in
    all_fit c.unsigned_abs-next.result c.args.factor c.args.count (omega arith) last
