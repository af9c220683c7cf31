use Rattle.std.proofs.Common.{true, false, [], ◌∷◌, Some, string_bytes, ap, sym, ◌∙◌, inr}
use Rattle.indexmap.proofs.CallerLemmas.{insert_entry-new}
use Rattle.fm_registry_rules.specs.Answer.{AlreadyExists, NameTaken, first_of}
use Rattle.fm_core.specs.inside.TreeView.{seen_metrics}
use Rattle.fm_registry_rules.specs.contracts.names.TailedPartialEq.TheImpl as key
use Rattle.fm_core.proofs.MetricLemmas.{same_metric-test, seen_metrics-push}
use Rattle.fm_core.proofs.TailLemmas.{beside_none, beside_one}
use Rattle.fm_core.proofs.registry.tree.register.insert_new.Goals as goal

pub returns-in-Ok-clause-ok : goal.returns-in-Ok-clause-ok
returns-in-Ok-clause-ok g c =
    ap seen_metrics (c.in-Ok.ensures.entries ∙ insert_entry-new key.ghosts.eq c.args.metrics.now c.args.key c.args.metric c.in_default.ensures.free)
    ∙ seen_metrics-push c.args.metrics.now.entries c.args.key c.args.metric

pub returns-in-Ok-clause-answer : goal.returns-in-Ok-clause-answer
returns-in-Ok-clause-answer g c =
    inr (sym (beside_none c.args.metrics.now.entries c.args.key c.args.metric c.args.is_below c.in_default.ensures.free ∙ ap (λ d. first_of ((d, NameTaken (string_bytes c.args.key.metadata.name)) ∷ [])) c.if-is_below.false))

pub returns-then-is_below-clause-answer : goal.returns-then-is_below-clause-answer
returns-then-is_below-clause-answer g c =
    inr (ap (λ n. Some (NameTaken (string_bytes n))) c.into_name-name-then-is_below.ensures
    ∙ sym (beside_none c.args.metrics.now.entries c.args.key c.args.metric c.args.is_below c.in_default.ensures.free ∙ ap (λ d. first_of ((d, NameTaken (string_bytes c.args.key.metadata.name)) ∷ [])) c.if-is_below.true))

pub returns-then-is_same-clause-answer : goal.returns-then-is_same-clause-answer
returns-then-is_same-clause-answer g c =
    let test = rw c.metadata.ensures at c.is_same_as-is_same.ensures in
    let same = same_metric-test c.args.key.metadata c.in-Some.there.now c.args.metric c.is_same_as-is_same.result (test.0, test.1) ∙ c.if-is_same.true in
    inr (ap (λ n. Some (AlreadyExists (string_bytes n))) c.into_name-name.ensures
    ∙ sym (beside_one c.args.metrics.now.entries c.args.key c.args.metric c.args.is_below true c.in-Some.ensures.taken.0 (c.in-Some.ensures.taken.1 c.args.metric ∙ same)))

pub returns-in-Some-clause-answer : goal.returns-in-Some-clause-answer
returns-in-Some-clause-answer g c =
    let test = rw c.metadata.ensures at c.is_same_as-is_same.ensures in
    let other = same_metric-test c.args.key.metadata c.in-Some.there.now c.args.metric c.is_same_as-is_same.result (test.0, test.1) ∙ c.if-is_same.false in
    inr (ap (λ n. Some (NameTaken (string_bytes n))) c.into_name-name.ensures
    ∙ sym (beside_one c.args.metrics.now.entries c.args.key c.args.metric c.args.is_below false c.in-Some.ensures.taken.0 (c.in-Some.ensures.taken.1 c.args.metric ∙ other)))
