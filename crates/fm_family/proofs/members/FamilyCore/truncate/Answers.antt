use Rattle.fm_family.proofs.LeavingLemmas.{written_take}
use Rattle.fm_family.proofs.members.FamilyCore.truncate.Goals as goal

pub invariant_of-self : goal.invariant_of-self
invariant_of-self g c =
    let inside = c.self.inside in
    rw (c.truncate.ensures.entries, c.truncate-2.ensures.items) (written_take g.LS.EncodeLabelSet.labels c.args.len inside.members.entries inside.labels.items c.self.invariant)
