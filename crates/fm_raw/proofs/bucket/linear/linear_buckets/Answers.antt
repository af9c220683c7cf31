use Rattle.std.proofs.Common.{◌-◌, ◌/◌, ◌≤◌, pos, ◌<ℤ◌, subst, arith, rules}
use Rattle.std.specs.Int.{w64}
use Rattle.std.specs.Int.RustNames.{FitsSigned}
use Rattle.std.proofs.lemmas.Int.{ints, to_z-of_z}
use Rattle.fm_raw.specs.Bounds.{IsLinear}
use Rattle.fm_raw.proofs.LinearLemmas.{room_is, width_is, steps_past, steps_within}
use Rattle.fm_raw.proofs.bucket.linear.linear_buckets.Goals as goal

pub returns-then-count-room-clause-refused : goal.returns-then-count-room-clause-refused
returns-then-count-room-clause-refused c =
    let some : pos 0 <ℤ c.args.width = search rules in
    let fits : FitsSigned w64 c.millionths-next.result = search rules in
    let fits' : FitsSigned w64 c.millionths-width.result = search rules in
    let far = room_is c.args.start c.millionths-next.result c.abs_diff-room.result fits c.millionths-next.ensures.exact c.abs_diff-room.ensures in
    let wide = width_is c.args.width c.millionths-width.result c.unsigned_abs.result fits' c.millionths-width.ensures.exact some c.unsigned_abs.ensures.value in
    (some, omega arith, steps_past c.args.start c.args.width c.abs_diff-room.result c.unsigned_abs.result (c.args.count - 1) far wide some c.if-count-room.true)

pub returns-then-count-room-clause-ok : goal.returns-then-count-room-clause-ok
returns-then-count-room-clause-ok c =
    let past = (returns-then-count-room-clause-refused c).2 in
    ((λ e. absurd (cc)), (λ (is : IsLinear c.args.start c.args.width c.args.count). absurd (omega (arith, ints, past, is.fits))))

pub invariant_of-result : goal.invariant_of-result
invariant_of-result c i h =
    let some : pos 0 <ℤ c.args.width = search rules in
    let fits : FitsSigned w64 c.millionths-next.result = search rules in
    let fits' : FitsSigned w64 c.millionths-width.result = search rules in
    let far = room_is c.args.start c.millionths-next.result c.abs_diff-room.result fits c.millionths-next.ensures.exact c.abs_diff-room.ensures in
    let wide = width_is c.args.width c.millionths-width.result c.unsigned_abs.result fits' c.millionths-width.ensures.exact some c.unsigned_abs.ensures.value in
    let few : i ≤ c.abs_diff-room.result / c.unsigned_abs.result = omega (arith, h, c.if-count-room.false) in
    rw (to_z-of_z w64 c.millionths-next.result fits, to_z-of_z w64 c.millionths-width.result fits', c.millionths-next.ensures.exact, c.millionths-width.ensures.exact)
    (steps_within c.args.start c.args.width c.abs_diff-room.result c.unsigned_abs.result i far wide some (subst (FitsSigned w64) c.millionths-next.ensures.exact fits) few)
