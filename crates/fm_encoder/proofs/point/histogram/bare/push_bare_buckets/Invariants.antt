use Rattle.std.proofs.Common.{[]}
use Rattle.fm_encoder.proofs.BucketLemmas.{PushedFirst}
use Rattle.fm_encoder.proofs.point.histogram.bare.push_bare_buckets.Given as goal

abbrev pub invariant-loop-i : goal.invariant-loop-i
invariant-loop-i l = PushedFirst (λ _. []) l.buckets l.buckets l.i l.values l.fn.points l.points
