use Rattle.std.proofs.Common.{◌∙◌}
use Rattle.fm_exposition.proofs.FindLemmas.{first_more}
use Rattle.fm_exposition.proofs.exposition.Exposition.value.Goals as goal

pub returns-in-Some : goal.returns-in-Some
returns-in-Some c = first_more _ _ _ c.loop-family.family-index c.family-item.result _ c.family-item.is c.loop-family-test.true c.in-Some.ensures ∙ c.loop-family.invariant

pub loop-family-preserved : goal.loop-family-preserved
loop-family-preserved c = first_more _ _ _ c.loop-family.family-index c.family-item.result _ c.family-item.is c.loop-family-test.true c.in_default.ensures ∙ c.loop-family.invariant
