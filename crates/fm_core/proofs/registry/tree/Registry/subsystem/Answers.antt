use Rattle.std.proofs.Common.{refl}
use Rattle.fm_core.proofs.registry.tree.Registry.subsystem.Goals as goal

pub returns : goal.returns
returns g c = (
  rw c.new.ensures.items refl,
  record {
    writes_back = tt;
    answer = rw c.new.ensures.items at c.labelled_subsystem.ensures.answer;
    there = rw c.new.ensures.items at c.labelled_subsystem.ensures.there;
    name = c.labelled_subsystem.ensures.name;
    reads = rw c.new.ensures.items at c.labelled_subsystem.ensures.reads;
    sound = c.labelled_subsystem.ensures.sound;
  },
)
