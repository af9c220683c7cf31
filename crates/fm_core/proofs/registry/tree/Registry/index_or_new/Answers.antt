use Rattle.std.proofs.Common.{sym, ap, ◌∙◌, subst, inr, true≢false}
use Rattle.fm_grammar.specs.LabelPairs.{labels_of}
use Rattle.std.specs.String.{string_bytes}
use Rattle.fm_registry_rules.specs.Tree.{names_in}
use Rattle.fm_registry_rules.specs.inside.Forests.{index_in}
use Rattle.fm_registry_rules.specs.Answer.{IsReturned, refusal_of}
use Rattle.fm_registry_rules.proofs.AnswerLemmas.{child_refusal-there, child_refusal-new}
use Rattle.fm_registry_rules.proofs.ApplyLemmas.{there_from_index, absent_from_index}
use Rattle.fm_registry_rules.proofs.PushLemmas.{with_subsystem-there}
use Rattle.fm_core.proofs.registry.tree.Registry.index_or_new.Goals as goal

pub returns-in-Some-clause-ok : goal.returns-in-Some-clause-ok
returns-in-Some-clause-ok g c = with_subsystem-there c.args.self.now (string_bytes c.args.name) (labels_of c.args.labels.items) _ (ap (λ m. index_in c.args.self.now.children m) (sym c.as_str.ensures.value) ∙ sym c.index_of.ensures ∙ c.in-Some.is)

pub returns-in-Some-clause-answer : goal.returns-in-Some-clause-answer
returns-in-Some-clause-answer g c =
    inr (sym (child_refusal-there c.args.self.now.facts.metrics (names_in c.args.self.now.children) (string_bytes c.args.name)
    (there_from_index c.args.self.now.children (string_bytes c.args.name) 0 _ (ap (λ m. index_in c.args.self.now.children m) (sym c.as_str.ensures.value) ∙ sym c.index_of.ensures ∙ c.in-Some.is))))

pub returns-in-None-clause-answer : goal.returns-in-None-clause-answer
returns-in-None-clause-answer g c =
    subst (λ o. IsReturned (refusal_of c.new_index.result) o)
    (sym (child_refusal-new c.args.self.now.facts.metrics (names_in c.args.self.now.children) (string_bytes c.args.name)
    (absent_from_index c.args.self.now.children (string_bytes c.args.name) 0 (ap (λ m. index_in c.args.self.now.children m) (sym c.as_str.ensures.value) ∙ sym c.index_of.ensures ∙ c.in-None.is))))
    c.new_index.ensures.answer

pub returns-in-None-clause-there : goal.returns-in-None-clause-there
returns-in-None-clause-there g c = λ h.
    absurd (true≢false (sym h ∙ absent_from_index c.args.self.now.children (string_bytes c.args.name) 0 (ap (λ m. index_in c.args.self.now.children m) (sym c.as_str.ensures.value) ∙ sym c.index_of.ensures ∙ c.in-None.is)))
