use Rattle.std.proofs.Common.{[], Some, refl, subst}
use Rattle.std.specs.Prelude.{◌≡◌, OnOk}
use Rattle.std.proofs.lemmas.Result.{err_from_is_err_and}
use Rattle.fm_registry_rules.specs.Answer.{refusal_of, seen_error}
use Rattle.fm_registry_rules.specs.History.{Register}
use Rattle.fm_registry_rules.specs.inside.Forests.{with_metric}
use Rattle.fm_registry_rules.proofs.CallLemmas.{register-reads}
use Rattle.fm_core.specs.View.{asked_metric, seen_metric}
use Rattle.fm_core.proofs.AskedLemmas.{asked-named, asked-refused, asked-returned}
use Rattle.fm_core.proofs.GrowthLemmas.{Grows-returned, Grows-same, Grows-sound}
use Rattle.fm_core.proofs.registry.tree.Registry.add_metric.Goals as goal

pub returns-clause-answer : goal.returns-clause-answer
returns-clause-answer g c =
    asked-returned c.args.self.now (asked_metric c.args.name c.args.help c.args.unit c.args.metric c.args.metric_type) (refusal_of c.insert_named.result)
    (asked-named c.args.self.now c.args.name c.args.help c.args.metric_type c.args.unit c.args.metric c.in_ok-metadata.metadata (refusal_of c.insert_named.result) c.in_ok-metadata.ensures.answer c.in_ok-metadata.ensures.ok c.insert_named.ensures.answer)

pub returns-clause-ok : goal.returns-clause-ok
returns-clause-ok g c =
    register-reads c.args.self.now c.insert_named.new.self (asked_metric c.args.name c.args.help c.args.unit c.args.metric c.args.metric_type) c.insert_named.result
    (asked-named c.args.self.now c.args.name c.args.help c.args.metric_type c.args.unit c.args.metric c.in_ok-metadata.metadata (refusal_of c.insert_named.result) c.in_ok-metadata.ensures.answer c.in_ok-metadata.ensures.ok c.insert_named.ensures.answer)
    (subst (λ d. OnOk c.insert_named.result (c.insert_named.new.self ≡ with_metric c.args.self.now (seen_metric d c.args.metric))) c.in_ok-metadata.ensures.ok c.insert_named.ensures.ok)

pub returns-clause-grows : goal.returns-clause-grows
returns-clause-grows g c = Grows-returned _ _ (Register [] (asked_metric c.args.name c.args.help c.args.unit c.args.metric c.args.metric_type)) c.insert_named.result (returns-clause-ok g c) c.insert_named.ensures.err

pub returns-clause-sound : goal.returns-clause-sound
returns-clause-sound g c = Grows-sound _ _ (returns-clause-grows g c)

pub returns-in_err-metadata-clause-answer : goal.returns-in_err-metadata-clause-answer
returns-in_err-metadata-clause-answer g c =
    let refused = err_from_is_err_and c.from_residual.result c.from_residual.ensures.1 in
    rw (refused.1, refused.2)
    (asked-returned c.args.self.now (asked_metric c.args.name c.args.help c.args.unit c.args.metric c.args.metric_type) (Some (seen_error c.in_err-metadata.field-0.0))
    (asked-refused c.args.self.now c.args.name c.args.help c.args.metric_type c.args.unit c.args.metric (seen_error c.in_err-metadata.field-0.0) c.in_err-metadata.ensures.answer))

pub returns-in_err-metadata-clause-grows : goal.returns-in_err-metadata-clause-grows
returns-in_err-metadata-clause-grows g c = Grows-same _ _ refl
