use Rattle.std.proofs.Common.{refl, rules}
use Rattle.std.specs.String.{string_bytes}
use Rattle.fm_grammar.specs.LabelPairs.{labels_of}
use Rattle.fm_registry_rules.specs.History.{Subsystem}
use Rattle.fm_core.proofs.PathLemmas.{first_there, rest_there, here_reply, here_ok, below_reply, below_ok, below_err}
use Rattle.fm_core.proofs.registry.tree.registry_call.+ask_at.Goals as goal

pub child_mut-requires : goal.child_mut-requires
child_mut-requires g t c = first_there _ _ _ _ _ c.in-Some.ensures.cases.0 c.as_str.ensures.value c.requires

pub ask_at-requires : goal.ask_at-requires
ask_at-requires g t c =
    let there = rest_there _ _ _ _ _ _ c.in-Some.ensures.cases.0 c.as_str.ensures.value c.child_mut.ensures.value c.requires in
    search (rules, there)

pub returns-in-None-clause-reply : goal.returns-in-None-clause-reply
returns-in-None-clause-reply g t c =
    here_reply (λ path. Subsystem path (string_bytes c.args.name) (labels_of c.args.labels.items)) (λ name path. refl) _ _ _ c.in-None.ensures.cases
    c.ask_subsystem.ensures.reply

pub returns-in-None-clause-ok : goal.returns-in-None-clause-ok
returns-in-None-clause-ok g t c =
    here_ok (λ path. Subsystem path (string_bytes c.args.name) (labels_of c.args.labels.items)) (λ name path. refl) _ _ _ _ c.in-None.ensures.cases c.ask_subsystem.ensures.ok

pub returns-in-Some-clause-reply : goal.returns-in-Some-clause-reply
returns-in-Some-clause-reply g t c =
    below_reply (λ path. Subsystem path (string_bytes c.args.name) (labels_of c.args.labels.items)) (λ name path. refl) _ _ c.ask_at.new.registry _ _ _ _ _
    c.in-Some.ensures.cases.0 c.as_str.ensures.value c.child_mut.ensures.value c.child_mut.ensures.name _ c.ask_at.ensures.reply

pub returns-in-Some-clause-ok : goal.returns-in-Some-clause-ok
returns-in-Some-clause-ok g t c =
    below_ok (λ path. Subsystem path (string_bytes c.args.name) (labels_of c.args.labels.items)) (λ name path. refl) _ _ c.ask_at.new.registry _ _ _ _ _
    c.in-Some.ensures.cases.0 c.as_str.ensures.value c.child_mut.ensures.value c.child_mut.ensures.name _ c.ask_at.ensures.reply c.ask_at.ensures.ok

pub returns-in-Some-clause-err : goal.returns-in-Some-clause-err
returns-in-Some-clause-err g t c =
    below_err (λ path. Subsystem path (string_bytes c.args.name) (labels_of c.args.labels.items)) (λ name path. refl) _ _ c.ask_at.new.registry _ _ _ _ _
    c.in-Some.ensures.cases.0 c.as_str.ensures.value c.child_mut.ensures.value c.child_mut.ensures.name _ c.ask_at.ensures.err
