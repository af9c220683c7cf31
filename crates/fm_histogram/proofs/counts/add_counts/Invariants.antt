use Rattle.std.proofs.Common.{◌≡◌}
use Rattle.fm_histogram.proofs.MergeLemmas.{merged_upto}
use Rattle.fm_histogram.proofs.counts.add_counts.Given as goal

abbrev pub invariant-loop-i : goal.invariant-loop-i
invariant-loop-i l = l.buckets ≡ merged_upto l.i l.fn.buckets l.other
