use Rattle.std.proofs.Common.{[]}
use Rattle.std.specs.Option.{option_map_or}
use Rattle.fm_encoder.proofs.BucketLemmas.{PushedFirst}
use Rattle.fm_encoder.proofs.point.PointEncoder.push_buckets.Given as goal

abbrev pub invariant-loop-i : goal.invariant-loop-i
invariant-loop-i g l =
    PushedFirst (λ slot. option_map_or (λ e. g.E.EncodeExemplar.exemplars e.now) slot []) l.buckets l.exemplars l.i l.values l.fn.self l.self
