use Rattle.std.proofs.Common.{true≢false, sym}
use Rattle.fm_exposition.proofs.CodePoints.{long_name, long_value}
use Rattle.fm_exposition.proofs.exemplar_limit.are_short.Goals as goal

pub returns-in_default : goal.returns-in_default
returns-in_default c = (
  λ never. absurd (true≢false (sym never)),
  λ h. absurd (long_name c.args.labels.now c.loop-name.name-index c.loop-name.left c.code_points.result c.loop-name-item.result c.deref.result.now c.loop-name-test.true c.loop-name-item.is c.loop-name.invariant c.deref.ensures c.code_points.ensures c.in_default.ensures h),
)

pub returns-in_default-checked_sub : goal.returns-in_default-checked_sub
returns-in_default-checked_sub c = (
  λ never. absurd (true≢false (sym never)),
  λ h. absurd (long_value c.args.labels.now c.loop-name.name-index c.loop-name.left c.code_points.result c.in-Some.after_name c.code_points-in-loop-name.result c.loop-name-item.result c.deref.result.now c.deref-in-loop-name.result.now c.loop-name-test.true c.loop-name-item.is c.loop-name.invariant c.deref.ensures c.code_points.ensures c.in-Some.ensures c.deref-in-loop-name.ensures c.code_points-in-loop-name.ensures c.in_default-checked_sub.ensures h),
)
