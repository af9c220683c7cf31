use Rattle.std.proofs.Common.{◌≡◌, ◌++◌, ◌≤◌, length, reverse}
use Rattle.indexmap.specs.IndexMap.{spare}
use Rattle.fm_family.proofs.vec.young.move_all.Given as goal

abbrev pub invariant-loop-values : goal.invariant-loop-values
invariant-loop-values g l =
    record {
      whole : l.to.entries ++ reverse l.from.entries ≡ l.fn.to.entries ++ l.fn.from.entries;
      room : length l.from.entries ≤ spare l.to;
    }

abbrev pub decreases-loop-values : goal.decreases-loop-values
decreases-loop-values g l = length l.from.entries
