use Rattle.std.proofs.Common.{◌-◌, pos, ◌<ℤ◌, sym, ◌∙◌, arith, rules}
use Rattle.std.specs.Int.{w64}
use Rattle.std.specs.Int.RustNames.{FitsSigned}
use Rattle.std.proofs.lemmas.Int.{ints, to_z-of_z}
use Rattle.fm_raw.proofs.LinearLemmas.{width_is}
use Rattle.fm_raw.proofs.ExponentialLemmas.{all_fit, last_is}
use Rattle.fm_raw.proofs.bucket.exponential.exponential_buckets_range.Goals as goal

pub invariant_of-result : goal.invariant_of-result
invariant_of-result c =
    let some : pos 0 <ℤ c.args.min = search rules in
    let fits : FitsSigned w64 c.millionths.result = search rules in
    let fits' : FitsSigned w64 c.millionths-2.result = search rules in
    let start = width_is c.args.min c.millionths.result c.unsigned_abs-next.result fits c.millionths.ensures.exact some c.unsigned_abs-next.ensures.value in
    let found = c.in-Some.ensures.some in
    let last = last_is c.args.min c.millionths-2.result c.unsigned_abs-next.result c.in-Some.factor (c.args.count - 1) (sym start) c.millionths.ensures.in_range.1 (omega (arith, ints, c.millionths-2.ensures.exact, c.millionths-2.ensures.in_range.1)) (λ h. found.1 h ∙ to_z-of_z w64 c.millionths-2.result fits') in
    all_fit c.unsigned_abs-next.result c.in-Some.factor c.args.count found.0 last
