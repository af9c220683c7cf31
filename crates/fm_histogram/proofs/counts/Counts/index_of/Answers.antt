use Rattle.std.proofs.Common.{None, ◌∙◌, ap, sym}
use Rattle.fm_histogram.specs.Histogram.{Histogram, index}
use Rattle.fm_histogram.proofs.BucketLemmas.{index_is_first, index_within}
use Rattle.fm_histogram.proofs.CountLemmas.{index_here}
use Rattle.fm_histogram.proofs.counts.Counts.index_of.Goals as goal

pub index_of-requires-clause-within : goal.index_of-requires-clause-within
index_of-requires-clause-within c = index_within _ _

pub index_of-requires-clause-rising : goal.index_of-requires-clause-rising
index_of-requires-clause-rising c i d h = index_is_first None _ _ d i (rw c.as_slice.ensures.value c.self.invariant.is.increasing) h

pub returns : goal.returns
returns c = rw c.as_slice.ensures.value at c.index_of.ensures ∙ sym (index_here _ _ c.args.value c.self.invariant) ∙ ap (λ (s : Histogram). index c.args.value s.buckets) c.self.view_is
