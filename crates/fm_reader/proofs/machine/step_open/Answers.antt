use Rattle.std.proofs.Common.{Some, None, sym, true≢false, ◌∙◌, string_bytes}
use Rattle.fm_grammar.specs.inside.Lines.{closed}
use Rattle.fm_reader.proofs.StepLemmas.{last_follows, type_follows, none_refuses, within_step}
use Rattle.fm_reader.proofs.SeenNames.{found_is, open_keeps, ended_names, headed_names}
use Rattle.fm_reader.proofs.machine.step_open.Goals as goal

pub returns-then-is_last_line-clause-step : goal.returns-then-is_last_line-clause-step
returns-then-is_last_line-clause-step c = last_follows _ _ _ _ (c.is_last_line.ensures.0 c.if-is_last_line.true) c.in_ok-families.ensures.closed

pub returns-then-is_last_line-clause-names : goal.returns-then-is_last_line-clause-names
returns-then-is_last_line-clause-names c = ended_names _ c.in_ok-families.families.items (closed c.args.finished.items c.args.current) c.in_ok-families.ensures.closed c.requires.names

pub returns-in-Some-clause-step : goal.returns-in-Some-clause-step
returns-in-Some-clause-step c =
    let found = found_is _ _ _ _ (Some (c.in-Some.name, c.in-Some.metric_type)) (closed c.args.finished.items c.args.current) c.in-Some.is c.in_ok-name.ensures.found c.requires.names in
    type_follows c.args.finished.items _ c.args.current _ c.in-Some.name.now (string_bytes c.in_ok-name-2.name) _ c.in_ok-name-2.ensures.ok c.in_ok-finished.ensures.closed found.0

pub returns-in-Some-clause-names : goal.returns-in-Some-clause-names
returns-in-Some-clause-names c =
    let found = found_is _ _ _ _ (Some (c.in-Some.name, c.in-Some.metric_type)) (closed c.args.finished.items c.args.current) c.in-Some.is c.in_ok-name.ensures.found c.requires.names in
    headed_names _ c.in_ok-finished.finished.items (closed c.args.finished.items c.args.current) (string_bytes c.in_ok-name-2.name) c.in-Some.name.now c.in_ok-finished.ensures.closed c.in_ok-name-2.ensures.ok found.1

pub returns-in-Some-current-clause-step : goal.returns-in-Some-current-clause-step
returns-in-Some-current-clause-step c =
    let found = found_is _ _ _ _ None (closed c.args.finished.items c.args.current) c.in_default.is c.in_ok-name.ensures.found c.requires.names in
    within_step _ _ _ _ c.step_within.result c.in-Some-current.is (λ h. true≢false (sym (c.is_last_line.ensures.1 h) ∙ c.if-is_last_line.false)) found.0 c.step_within.ensures.step

pub returns-in-Some-current-clause-names : goal.returns-in-Some-current-clause-names
returns-in-Some-current-clause-names c =
    let found = found_is _ _ _ _ None (closed c.args.finished.items c.args.current) c.in_default.is c.in_ok-name.ensures.found c.requires.names in
    open_keeps _ _ _ _ c.step_within.result found.0 (returns-in-Some-current-clause-step c) found.1

pub returns-in-None-clause-step : goal.returns-in-None-clause-step
returns-in-None-clause-step c =
    let found = found_is _ _ _ _ None (closed c.args.finished.items c.args.current) c.in_default.is c.in_ok-name.ensures.found c.requires.names in
    none_refuses _ _ _ c.in-None.is (λ h. true≢false (sym (c.is_last_line.ensures.1 h) ∙ c.if-is_last_line.false)) found.0
