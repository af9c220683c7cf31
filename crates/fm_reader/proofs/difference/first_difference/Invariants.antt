use Rattle.std.proofs.Common.{length}
use Rattle.fm_reader.specs.inside.Remaining.{lines_left}
use Rattle.fm_reader.proofs.DifferenceLemmas.{Compared}
use Rattle.fm_reader.proofs.difference.first_difference.Given as goal

abbrev pub invariant-loop-left_after : goal.invariant-loop-left_after
invariant-loop-left_after l = Compared l.fn.left l.fn.right l.same_lines l.left_rest l.right_rest

abbrev pub decreases-loop-left_after : goal.decreases-loop-left_after
decreases-loop-left_after l = length (lines_left l.left_rest)
