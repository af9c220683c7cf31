use Rattle.std.proofs.Common.{◌≡◌, ◌++◌, take}
use Rattle.fm_core.specs.inside.TreeView.{forest_of}
use Rattle.fm_core.specs.Seen.{listed_in}
use Rattle.fm_registry_rules.specs.Listing.{own_metrics, listed_forest}
use Rattle.fm_core.proofs.registry.tree.Registry.+list_into.Given as goal

abbrev pub invariant-loop-subsystem : goal.invariant-loop-subsystem
invariant-loop-subsystem g l = listed_in l.list.items ≡ (listed_in l.fn.list.items ++ own_metrics l.fn.self.facts) ++ listed_forest (forest_of (take l.subsystem-index l.subsystem-items))
