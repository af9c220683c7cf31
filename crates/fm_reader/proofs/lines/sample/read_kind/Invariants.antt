use Rattle.std.proofs.Common.{None, take}
use Rattle.std.specs.List.{All}
use Rattle.fm_reader.specs.inside.Parts.{IsAfterSuffix}
use Rattle.fm_reader.proofs.lines.sample.read_kind.Given as goal

-- no kind so far fits
abbrev pub invariant-loop-kind : goal.invariant-loop-kind
invariant-loop-kind l = All (λ kind. IsAfterSuffix kind l.text None) (take l.kind-index l.kind-items)
