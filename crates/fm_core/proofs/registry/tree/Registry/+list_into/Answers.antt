use Rattle.std.proofs.Common.{◌<◌, length, arith, ◌++◌}
use Rattle.fm_core.specs.Seen.{listed_in}
use Rattle.fm_registry_rules.specs.Listing.{own_metrics}
use Rattle.fm_core.proofs.ListingLemmas.{listed-subsystem}
use Rattle.fm_core.proofs.registry.tree.Registry.+list_into.Goals as goal

pub loop-subsystem-preserved : goal.loop-subsystem-preserved
loop-subsystem-preserved g t c =
    let within : c.loop-subsystem.subsystem-index < length c.deref-subsystem-items.result.now = omega arith in
    listed-subsystem (listed_in c.list_into.new.list.items) (listed_in c.loop-subsystem.list.items) (listed_in c.args.list.now.items ++ own_metrics c.args.self.now.facts) c.deref-subsystem-items.result.now c.loop-subsystem.subsystem-index c.subsystem-item.result
    within c.subsystem-item.is c.loop-subsystem.invariant (rw c.in_ok-list_into.was at c.list_into.ensures)
