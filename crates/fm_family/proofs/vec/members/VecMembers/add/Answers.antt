use Rattle.std.proofs.Common.{◌≡◌, ◌++◌, ◌∷◌, [], None, OnOk, OnErr, length, ◌<◌, sym, ap, ◌∙◌}
use Rattle.std.specs.Map.{lookup}
use Rattle.indexmap.specs.IndexMap.{get}
use Rattle.indexmap.proofs.CallerLemmas.{insert_entry-new}
use Rattle.fm_labels.specs.LabelValues.{values_eq}
use Rattle.fm_family.specs.VecMembers.{VecState}
use Rattle.fm_family.proofs.VecLemmas.{counted_insert, ok_then}
use Rattle.fm_family.proofs.vec.members.VecMembers.add.Goals as goal

pub invariant_of-self : goal.invariant_of-self
invariant_of-self g c =
    let inside = c.self.inside in
    let gone : get values_eq inside.members c.args.values ≡ None = ap (λ v. lookup (values_eq c.args.values) v.entries) c.self.view_is ∙ c.requires.new in
    let added = ok_then c.insert.result (c.insert.new.self.entries ≡ _) (c.insert.new.self.entries ≡ inside.members.entries ++ (c.args.values, c.args.metric) ∷ []) (λ e. e ∙ insert_entry-new values_eq inside.members c.args.values c.args.metric gone) c.insert.ensures.entries in
    let long : length c.args.values ≡ inside.count = c.requires.count ∙ sym (ap (λ v. v.count) c.self.view_is) in
    let room : length inside.members.entries < inside.limit = rw (← c.self.view_is) at c.requires.room in
    counted_insert inside.count inside.limit inside.members.entries c.insert.new.self.entries c.insert.result c.self.invariant c.args.values c.args.metric long room added c.insert.ensures.err

pub returns-in-Ok-clause-added : goal.returns-in-Ok-clause-added
returns-in-Ok-clause-added g c =
    let inside = c.self.inside in
    let gone : get values_eq inside.members c.args.values ≡ None = ap (λ v. lookup (values_eq c.args.values) v.entries) c.self.view_is ∙ c.requires.new in
    let added = c.in-Ok.ensures.entries ∙ insert_entry-new values_eq inside.members c.args.values c.args.metric gone in
    added ∙ ap (λ v. v.entries ++ (c.args.values, c.args.metric) ∷ []) c.self.view_is
