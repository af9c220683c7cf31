use Rattle.fm_labels.specs.LabelValues.{shown_texts, values_eq}
use Rattle.fm_family.proofs.VecLemmas.{counted_remove}
use Rattle.fm_family.proofs.vec.members.VecMembers.remove.Goals as goal

pub invariant_of-self : goal.invariant_of-self
invariant_of-self g c = let inside = c.self.inside in rw c.shift_remove.ensures.entries (counted_remove inside.count inside.limit inside.members.entries c.self.invariant (values_eq (shown_texts c.args.values.now)))
