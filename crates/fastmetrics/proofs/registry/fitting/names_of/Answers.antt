use Rattle.std.proofs.Common.{◌≡◌, arith}
use Rattle.fastmetrics.proofs.ConstantsLemmas.{names_more}
use Rattle.fastmetrics.proofs.registry.fitting.names_of.Goals as goal

pub loop-fact-preserved : goal.loop-fact-preserved
loop-fact-preserved c =
    rw c.in_ok-push.ensures.items (names_more c.args.facts.now c.loop-fact.fact-index c.fact-item.result c.loop-fact.names.items c.as_str.result (omega arith) c.fact-item.is c.loop-fact.invariant c.as_str.ensures.value)
