use Rattle.std.proofs.Common.{◌≡◌, ◌∙◌, sym, arith, position, Some}
use Rattle.std.specs.Map.{keys_of}
use Rattle.fm_family.proofs.WrittenLemmas.{written_count}
use Rattle.fm_family.proofs.LeavingLemmas.{written_remove, index_within, removed_at}
use Rattle.fm_family.proofs.members.FamilyCore.remove.Goals as goal

pub remove-requires : goal.remove-requires
remove-requires g c =
    let inside = c.self.inside in
    let found : position (g.LS.PartialEq.eq c.args.labels.now) (keys_of inside.members.entries) ≡ Some c.in-Some.index = sym c.in-Some.ensures.index in
    let within = index_within (g.LS.PartialEq.eq c.args.labels.now) inside.members.entries c.in-Some.index found in
    let counted = written_count g.LS.EncodeLabelSet.labels inside.members.entries inside.labels.items c.self.invariant in
    omega arith

pub invariant_of-self-2 : goal.invariant_of-self-2
invariant_of-self-2 g c =
    let inside = c.self.inside in
    let test = g.LS.PartialEq.eq c.args.labels.now in
    let found : position test (keys_of inside.members.entries) ≡ Some c.in-Some.index = sym c.in-Some.ensures.index in
    let gone = c.in-Some.ensures.entries ∙ removed_at test inside.members.entries c.in-Some.index found in
    rw (gone, c.remove.ensures.items) (written_remove g.LS.EncodeLabelSet.labels c.in-Some.index inside.members.entries inside.labels.items c.self.invariant)
