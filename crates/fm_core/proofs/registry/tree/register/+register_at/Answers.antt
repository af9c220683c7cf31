use Rattle.std.proofs.Common.{[], refl, rules}
use Rattle.fm_registry_rules.specs.History.{Register}
use Rattle.fm_registry_rules.specs.Answer.{refusal_of}
use Rattle.fm_registry_rules.proofs.CallLemmas.{registered-reply}
use Rattle.fm_core.specs.View.{asked_metric}
use Rattle.fm_core.proofs.PathLemmas.{first_there, rest_there, here_reply, here_ok, below_reply, below_ok, below_err}
use Rattle.fm_core.proofs.registry.tree.register.+register_at.Goals as goal

pub child_mut-requires : goal.child_mut-requires
child_mut-requires g t c = first_there _ _ _ _ _ c.in-Some.ensures.cases.0 c.as_str.ensures.value c.requires

pub register_at-requires : goal.register_at-requires
register_at-requires g t c =
    let there = rest_there _ _ _ _ _ _ c.in-Some.ensures.cases.0 c.as_str.ensures.value c.child_mut.ensures.value c.requires in
    search (rules, there)

pub returns-in-None-clause-reply : goal.returns-in-None-clause-reply
returns-in-None-clause-reply g t c =
    here_reply (λ path. Register path (asked_metric c.args.texts.0 c.args.texts.1 c.args.unit c.args.metric c.args.metric_type)) (λ name path. refl) _ _ _ c.in-None.ensures.cases
    (λ b reads. registered-reply b [] _ (refusal_of c.add_metric.result) (c.add_metric.ensures.answer b reads))

pub returns-in-None-clause-ok : goal.returns-in-None-clause-ok
returns-in-None-clause-ok g t c =
    here_ok (λ path. Register path (asked_metric c.args.texts.0 c.args.texts.1 c.args.unit c.args.metric c.args.metric_type)) (λ name path. refl) _ _ _ _ c.in-None.ensures.cases c.add_metric.ensures.ok

pub returns-in-Some-clause-reply : goal.returns-in-Some-clause-reply
returns-in-Some-clause-reply g t c =
    below_reply (λ path. Register path (asked_metric c.args.texts.0 c.args.texts.1 c.args.unit c.args.metric c.args.metric_type)) (λ name path. refl) _ _ c.register_at.new.registry _ _ _ _ _
    c.in-Some.ensures.cases.0 c.as_str.ensures.value c.child_mut.ensures.value c.child_mut.ensures.name _ c.register_at.ensures.reply

pub returns-in-Some-clause-ok : goal.returns-in-Some-clause-ok
returns-in-Some-clause-ok g t c =
    below_ok (λ path. Register path (asked_metric c.args.texts.0 c.args.texts.1 c.args.unit c.args.metric c.args.metric_type)) (λ name path. refl) _ _ c.register_at.new.registry _ _ _ _ _
    c.in-Some.ensures.cases.0 c.as_str.ensures.value c.child_mut.ensures.value c.child_mut.ensures.name _ c.register_at.ensures.reply c.register_at.ensures.ok

pub returns-in-Some-clause-err : goal.returns-in-Some-clause-err
returns-in-Some-clause-err g t c =
    below_err (λ path. Register path (asked_metric c.args.texts.0 c.args.texts.1 c.args.unit c.args.metric c.args.metric_type)) (λ name path. refl) _ _ c.register_at.new.registry _ _ _ _ _
    c.in-Some.ensures.cases.0 c.as_str.ensures.value c.child_mut.ensures.value c.child_mut.ensures.name _ c.register_at.ensures.err
