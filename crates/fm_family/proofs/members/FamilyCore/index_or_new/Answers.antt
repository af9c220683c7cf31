use Rattle.std.proofs.Common.{◌≡◌, None, true, ◌∙◌}
use Rattle.indexmap.specs.IndexMap.{get}
use Rattle.fm_family.specs.inside.Indexed.{HoldsMetric}
use Rattle.fm_family.proofs.MemberLemmas.{get-equal, last_index, holds_last, none_from_flags, gets_added}
use Rattle.fm_family.proofs.members.FamilyCore.index_or_new.Goals as goal

pub add-requires : goal.add-requires
add-requires g c =
    let eq = g.LS.PartialEq.eq in let old = c.args.self.now in let labels = c.args.labels.now in let key = c.in_ok-key.key in
    let same : eq labels key ≡ true = c.requires.clones labels key c.in_ok-key.ensures.cases in
    let gone : get eq old labels ≡ None = none_from_flags c.index_of.result _ c.index_of.ensures.found c.in_default.is in
    record { new = get-equal eq g.met.LS.Eq.laws old labels key same ∙ gone }

pub returns-clause-gets : goal.returns-clause-gets
returns-clause-gets g c =
    let eq = g.LS.PartialEq.eq in let old = c.args.self.now in let labels = c.args.labels.now in let key = c.in_ok-key.key in let metric = c.in_ok-metric.metric in
    let same : eq labels key ≡ true = c.requires.clones labels key c.in_ok-key.ensures.cases in
    let gone : get eq old labels ≡ None = none_from_flags c.index_of.result _ c.index_of.ensures.found c.in_default.is in
    gets_added g.LS.Clone.is_clone eq (g.MF.MetricFactory.promises c.args.factory.now) labels key old.entries c.add.new.self.entries (HoldsMetric c.add.new.self.entries) c.len-index.result metric
    gone c.in_ok-key.ensures.cases same c.in_ok-metric.ensures c.in_ok-add.ensures.added (holds_last old.entries c.add.new.self.entries key metric c.len-index.result c.len-index.ensures.count c.in_ok-add.ensures.added)

pub returns-clause-within : goal.returns-clause-within
returns-clause-within g c =
    last_index c.args.self.now.entries c.add.new.self.entries (c.in_ok-key.key, c.in_ok-metric.metric) c.len-index.result c.len-index.ensures.count c.in_ok-add.ensures.added
