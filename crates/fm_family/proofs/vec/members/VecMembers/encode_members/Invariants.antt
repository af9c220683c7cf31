use Rattle.std.proofs.Common.{◌≡◌, take, Ok, None, Any}
use Rattle.fm_encoder.specs.Emits.{EmitsMembers, OffersOf}
use Rattle.fm_family.specs.Members.{MayFault}
use Rattle.fm_family.specs.VecMembers.{named_labels, NeverFaults}
use Rattle.fm_family.proofs.vec.members.VecMembers.encode_members.Given as goal

abbrev pub invariant-loop-index : goal.invariant-loop-index
invariant-loop-index g l =
    let M = g.M.EncodePoint in
    let xs = l.fn.self.entries in
    record {
      offered : EmitsMembers (OffersOf (named_labels l.fn.names) M.points (take l.index xs)) (Any (MayFault NeverFaults M.may_fault) xs) l.initial.encoder l.encoder (Ok tt);
      accepting : l.initial.encoder.refused ≡ None → l.encoder.refused ≡ None;
    }
