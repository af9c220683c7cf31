use Rattle.std.proofs.Common.{None}
use Rattle.std.proofs.lemmas.List.Elements.{All-more}
use Rattle.fm_reader.specs.inside.Parts.{IsAfterSuffix}
use Rattle.fm_reader.proofs.lines.sample.read_kind.Goals as goal

pub loop-kind-preserved : goal.loop-kind-preserved
loop-kind-preserved c = All-more (λ kind. IsAfterSuffix kind c.args.text.now None) c.kinds-kind-items.result.now c.loop-kind.kind-index _ c.loop-kind-test.true c.loop-kind.invariant c.in_default.ensures
