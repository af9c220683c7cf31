use Rattle.std.proofs.Common.{sym, ap, subst, ◌∙◌}
use Rattle.fm_grammar.specs.NameTests.{is_label_name}
use Rattle.fm_registry_rules.specs.inside.RootLabels.{IsRefusedAt}
use Rattle.fm_registry_rules.proofs.RefusedLabelLemmas.{refused-label}
use Rattle.fm_registry_rules.proofs.constant_labels.tested_root_labels.Goals as goal

pub returns-then-is_label_name-clause-answer : goal.returns-then-is_label_name-clause-answer
returns-then-is_label_name-clause-answer c =
    refused-label c.args.labels.items c.in-Some.index c.swap_remove-name.result _ (subst (λ ls. IsRefusedAt ls c.in-Some.index) c.deref.ensures.value c.in-Some.ensures) c.swap_remove-name.ensures.value
    (ap is_label_name (sym c.as_str.ensures.value) ∙ sym c.is_label_name.ensures.test ∙ c.if-is_label_name.true)

pub returns-clause-answer : goal.returns-clause-answer
returns-clause-answer c =
    refused-label c.args.labels.items c.in-Some.index c.swap_remove-name.result _ (subst (λ ls. IsRefusedAt ls c.in-Some.index) c.deref.ensures.value c.in-Some.ensures) c.swap_remove-name.ensures.value
    (ap is_label_name (sym c.as_str.ensures.value) ∙ sym c.is_label_name.ensures.test ∙ c.if-is_label_name.false)
