use Rattle.std.proofs.Common.{◌≡◌, take, None}
use Rattle.std.specs.List.{AllByRecursion}
use Rattle.std.specs.Map.{lookup}
use Rattle.fm_labels.specs.LabelValues.{values_eq}
use Rattle.fm_family.proofs.vec.members.VecMembers.are_beside.Given as goal

abbrev pub invariant-loop-index : goal.invariant-loop-index
invariant-loop-index g l = AllByRecursion (λ f. lookup (values_eq f.0) l.fn.others.entries ≡ None) (take l.index l.fn.self.entries)
