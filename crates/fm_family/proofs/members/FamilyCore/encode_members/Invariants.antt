use Rattle.std.proofs.Common.{◌≡◌, take, Ok, None, Any}
use Rattle.fm_encoder.specs.Emits.{EmitsMembers, OffersOf}
use Rattle.fm_family.specs.Members.{MayFault}
use Rattle.fm_family.proofs.members.FamilyCore.encode_members.Given as goal

abbrev pub invariant-loop-index : goal.invariant-loop-index
invariant-loop-index g l =
    let LS = g.LS.EncodeLabelSet in let M = g.M.EncodePoint in
    let xs = l.fn.self.entries in
    record {
      offered : EmitsMembers (OffersOf LS.labels M.points (take l.index xs)) (Any (MayFault LS.may_fault M.may_fault) xs) l.initial.encoder l.encoder (Ok tt);
      accepting : l.initial.encoder.refused ≡ None → l.encoder.refused ≡ None;
    }
