use Rattle.std.proofs.Common.{◌∙◌, ap, refl, subst, inl}
use Rattle.fm_registry_rules.specs.Tree.{names_in}
use Rattle.fm_registry_rules.specs.Answer.{IsReturned, refusal_of}
use Rattle.fm_registry_rules.proofs.AnswerLemmas.{standing_may}
use Rattle.fm_registry_rules.specs.inside.Names.{refusal_beside}
use Rattle.fm_core.specs.View.{seen_metric}
use Rattle.fm_core.proofs.TailLemmas.{beside_standing}
use Rattle.fm_core.proofs.registry.tree.Registry.insert_named.Goals as goal

pub returns-clause-answer : goal.returns-clause-answer
returns-clause-answer g c =
    subst (λ o. IsReturned (refusal_of c.insert_metric.result) o)
    (ap (λ t. refusal_beside t.facts.metrics c.is_below_child-is_below.result (seen_metric c.in-Ok.key.metadata c.args.metric)) c.self.view_is
    ∙ beside_standing c.args.self.now.facts.metrics (names_in c.args.self.now.children) c.in-Ok.key c.args.metadata c.args.metric c.tail.result.now c.is_below_child-is_below.result c.in-Ok.ensures c.tail.ensures c.is_below_child-is_below.ensures)
    c.insert_metric.ensures.answer

pub returns-in_default-clause-answer : goal.returns-in_default-clause-answer
returns-in_default-clause-answer g c = inl (refl, standing_may c.args.self.now.facts.metrics (names_in c.args.self.now.children) (seen_metric c.args.metadata c.args.metric))
