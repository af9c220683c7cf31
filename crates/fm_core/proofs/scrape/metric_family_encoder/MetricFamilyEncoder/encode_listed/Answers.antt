use Rattle.std.proofs.Common.{◌≡◌, ◌∷◌, [], ap, subst, ◌∙◌}
use Rattle.fm_core.specs.Seen.{seen_listed}
use Rattle.fm_core.specs.inside.Collected.{Collected, collected, collected_in, Adds}
use Rattle.fm_core.proofs.CollectLemmas.{on_ok}
use Rattle.fm_core.proofs.CollectedLemmas.{Adds-family}
use Rattle.fm_core.proofs.scrape.metric_family_encoder.MetricFamilyEncoder.encode_listed.Goals as goal

pub returns-in-Ok-clause-added : goal.returns-in-Ok-clause-added
returns-in-Ok-clause-added g c =
    let listed = seen_listed c.args.listed.now in
    let before = c.self.inside in
    let after = c.add_family.new in
    let printed = on_ok c.print_name.result c.in_default.not-Err c.print_name.ensures in
    let constants : before.encoder.context.constants ≡ listed.labels = ap (λ v. v.labels) c.self.view_is ∙ c.requires.labels in
    let added = rw (c.as_str.ensures.value, printed, constants) at c.in-Ok.ensures.added in
    subst (λ (old : Collected). Adds g.M.EncodeMetric (listed ∷ []) old (collected_in after.families after.encoder.output)) (ap collected c.self.view_is)
    (Adds-family g.M.EncodeMetric listed (collected_in before.families before.encoder.output) (collected_in after.families after.encoder.output) added.1.0 c.requires.listable added.1.1 added.1.2)
