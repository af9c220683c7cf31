use Rattle.std.proofs.Common.{refl, ap, ◌++◌, ◌∷◌, [], ◌∙◌}
use Rattle.std.proofs.lemmas.Result.{err_from_is_err_and}
use Rattle.fm_core.specs.Calls.{seen_path}
use Rattle.fm_core.proofs.GrowthLemmas.{Grows-same, Grows-then}
use Rattle.fastmetrics.proofs.RootLemmas.{path-pushed}
use Rattle.fastmetrics.proofs.PathLemmas.{ended, unasked, replied, refused, gone_on}
use Rattle.fastmetrics.proofs.registry.paths.+call_below.Goals as goal

pub returns-in_err-ask-in-Some-clause-grows : goal.returns-in_err-ask-in-Some-clause-grows
returns-in_err-ask-in-Some-clause-grows g t c = Grows-same _ _ refl

pub returns-in_err-from_str-in-Some-clause-grows : goal.returns-in_err-from_str-in-Some-clause-grows
returns-in_err-from_str-in-Some-clause-grows g t c = Grows-same _ _ refl

pub returns-in_err-push-in-Some-clause-grows : goal.returns-in_err-push-in-Some-clause-grows
returns-in_err-push-in-Some-clause-grows g t c = Grows-same _ _ refl

pub returns-in_ok-run_call-in-Some-clause-grows : goal.returns-in_ok-run_call-in-Some-clause-grows
returns-in_ok-run_call-in-Some-clause-grows g t c = Grows-then _ _ _ c.run_call-in-Some.ensures.grows c.call_below.ensures.grows

pub returns-in-None-clause-calls : goal.returns-in-None-clause-calls
returns-in-None-clause-calls g t c = λ b reads.
    ended _ _ c.args.path.now b _ _ c.in-None.ensures.cases (replied g.M.EncodeMetric.types _ _ _ _ c.run_call.ensures.runs b reads)

pub returns-in_err-run_call-in-Some-clause-calls : goal.returns-in_err-run_call-in-Some-clause-calls
returns-in_err-run_call-in-Some-clause-calls g t c =
    let exit = err_from_is_err_and c.from_residual-in_err-run_call-in-Some.result c.from_residual-in_err-run_call-in-Some.ensures.1 in
    rw (exit.1, exit.2)
    (refused g.M.EncodeMetric.types _ _ _ _ c.args.path.now _ _ _ _ c.in-Some.ensures.cases.0 c.in_ok-ask-in-Some.ensures c.in_err-run_call-in-Some.ensures.runs)

pub returns-in_err-push-in-Some-clause-calls : goal.returns-in_err-push-in-Some-clause-calls
returns-in_err-push-in-Some-clause-calls g t c =
    let exit = err_from_is_err_and c.from_residual-in_err-push-in-Some.result c.from_residual-in_err-push-in-Some.ensures.1 in
    rw (exit.1, exit.2) (unasked _ _ _ _ c.args.path.now _ c.in-Some.ensures.cases.0)

pub returns-in_ok-run_call-in-Some-clause-calls : goal.returns-in_ok-run_call-in-Some-clause-calls
returns-in_ok-run_call-in-Some-clause-calls g t c =
    gone_on g.M.EncodeMetric.types _ _ _ _ _ c.args.path.now _ _ _ _ _ c.in-Some.ensures.cases.0 c.in_ok-ask-in-Some.ensures c.in_ok-run_call-in-Some.ensures.runs
    (ap seen_path c.in_ok-push-in-Some.ensures.items ∙ path-pushed c.args.above.items c.in_ok-from_str-in-Some.field-0
    ∙ ap (λ name. seen_path c.args.above.items ++ name ∷ []) c.in_ok-from_str-in-Some.ensures.ok)
    c.call_below.ensures.calls
