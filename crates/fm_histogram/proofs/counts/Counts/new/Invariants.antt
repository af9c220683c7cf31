use Rattle.std.proofs.Common.{◌≡◌, ◌+◌, ◌≤◌, length, map, take, vec_len, vec_items}
use Rattle.std.specs.Prelude.{vec_capacity}
use Rattle.fm_histogram.proofs.EmptyLemmas.{finite}
use Rattle.fm_histogram.proofs.counts.Counts.new.Given as goal

abbrev pub invariant-loop-bound : goal.invariant-loop-bound
invariant-loop-bound l = (vec_items l.buckets ≡ map finite (take l.bound-index l.fn.rising.items)) × (vec_len l.buckets ≡ l.bound-index) × (length l.fn.rising.items + 1 ≤ vec_capacity l.buckets)
