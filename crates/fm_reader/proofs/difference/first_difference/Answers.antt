use Rattle.std.proofs.Common.{arith, rules, refl, sym, true≢false}
use Rattle.fm_reader.proofs.DifferenceLemmas.{count_bound, differs, different, ended}
use Rattle.fm_reader.proofs.difference.first_difference.Goals as goal

pub overflow_add-line : goal.overflow_add-line
overflow_add-line c = omega (arith, count_bound _ _ _ _ _ c.loop-left_after.invariant)

pub returns-then-not-is_same_line-clause-first : goal.returns-then-not-is_same_line-clause-first
returns-then-not-is_same_line-clause-first c =
    differs _ _ _ _ _ c.take_line.result.0 c.take_line-in-loop-left_after.result.0 _ _ c.loop-left_after.invariant c.take_line.ensures c.take_line-in-loop-left_after.ensures (λ e. true≢false (sym (c.if-not-is_same_line.ensures.1 e)))

pub returns-then-not-is_same_line-clause-same : goal.returns-then-not-is_same_line-clause-same
returns-then-not-is_same_line-clause-same c =
    (λ never. absurd (true≢false never), λ e. absurd (different _ _ _ (returns-then-not-is_same_line-clause-first c) e))

pub returns-then-is_none-clause-same : goal.returns-then-is_none-clause-same
returns-then-is_none-clause-same c =
    (λ _. ended _ _ _ _ _ c.take_line.result.0 c.take_line-in-loop-left_after.result.0 _ _ c.loop-left_after.invariant c.take_line.ensures c.take_line-in-loop-left_after.ensures (c.if-not-is_same_line.ensures.0 refl) (search rules), λ _. refl)

pub overflow_add-same_lines : goal.overflow_add-same_lines
overflow_add-same_lines c = omega (arith, count_bound _ _ _ _ _ c.loop-left_after.invariant)
