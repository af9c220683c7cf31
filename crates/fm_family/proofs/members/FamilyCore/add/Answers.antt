use Rattle.std.proofs.Common.{◌≡◌, ◌++◌, ◌∷◌, [], None, ◌∙◌}
use Rattle.indexmap.specs.IndexMap.{get}
use Rattle.indexmap.proofs.CallerLemmas.{insert_entry-new}
use Rattle.fm_family.proofs.WrittenLemmas.{written_push, written_cut}
use Rattle.fm_family.proofs.members.FamilyCore.add.Goals as goal

pub invariant_of-self-in-Ok-insert : goal.invariant_of-self-in-Ok-insert
invariant_of-self-in-Ok-insert g c =
    let eq = g.LS.PartialEq.eq in let inside = c.self.inside in
    let gone : get eq inside.members c.args.labels ≡ None = rw c.self.view_is c.requires.new in
    let added : c.insert.new.self.entries ≡ inside.members.entries ++ (c.args.labels, c.args.metric) ∷ [] = c.in-Ok-insert.ensures.entries ∙ insert_entry-new eq inside.members c.args.labels c.args.metric gone in
    rw c.in_ok-push.ensures.items (written_push g.LS.EncodeLabelSet.labels inside.members.entries c.insert.new.self.entries inside.labels.items c.args.labels c.args.metric c.in-Ok.written added c.self.invariant c.in-Ok.ensures.read)

pub returns-in-Ok-insert-clause-added : goal.returns-in-Ok-insert-clause-added
returns-in-Ok-insert-clause-added g c =
    let eq = g.LS.PartialEq.eq in let inside = c.self.inside in
    let gone : get eq inside.members c.args.labels ≡ None = rw c.self.view_is c.requires.new in
    rw (← c.self.view_is) (c.in-Ok-insert.ensures.entries ∙ insert_entry-new eq inside.members c.args.labels c.args.metric gone)

pub invariant_of-self-in-Err : goal.invariant_of-self-in-Err
invariant_of-self-in-Err g c =
    let inside = c.self.inside in
    written_cut g.LS.EncodeLabelSet.labels inside.members.entries c.insert.new.self.entries inside.labels.items c.push.new.self.items c.truncate.new.self.items c.in-Ok.written c.len-count.result c.in-Err.ensures.err c.self.invariant c.in_ok-push.ensures.items c.len-count.ensures.len c.truncate.ensures.items
