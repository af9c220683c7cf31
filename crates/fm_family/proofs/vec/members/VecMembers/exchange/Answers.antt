use Rattle.fm_family.proofs.VecLemmas.{counted_swap}
use Rattle.fm_family.proofs.vec.members.VecMembers.exchange.Goals as goal

pub invariant_of-self : goal.invariant_of-self
invariant_of-self g c = let inside = c.self.inside in rw c.swap_indices.ensures.entries (counted_swap inside.count inside.limit inside.members.entries c.self.invariant c.args.first c.args.second)
