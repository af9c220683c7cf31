use Rattle.std.proofs.Common.{◌≡◌}
use Rattle.fm_family.specs.Members.{CalledAtMember}
use Rattle.fm_family.proofs.RetainLemmas.{RetainedSoFar}
use Rattle.fm_family.proofs.vec.members.VecMembers.retain_by.Given as goal

abbrev pub invariant-loop-index : goal.invariant-loop-index
invariant-loop-index g l =
    record {
      callable : goal.F-IsAlwaysCallable g l.keep;
      counts : (l.self.count ≡ l.fn.self.count) × (l.self.limit ≡ l.fn.self.limit);
      so_far : RetainedSoFar (CalledAtMember g.F.FnMut) l.fn.keep l.keep l.fn.self.entries l.self.entries l.retained l.index;
    }
