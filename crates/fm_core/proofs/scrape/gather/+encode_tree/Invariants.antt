use Rattle.std.proofs.Common.{◌≡◌, ◌++◌, None, take}
use Rattle.fm_registry_rules.specs.Listing.{own_metrics, listed_forest}
use Rattle.fm_core.specs.inside.TreeView.{forest_of}
use Rattle.fm_core.specs.inside.Collected.{collected, Adds}
use Rattle.fm_core.proofs.scrape.gather.+encode_tree.Given as goal

abbrev pub invariant-loop-subsystem : goal.invariant-loop-subsystem
invariant-loop-subsystem g l = record {
  added : Adds g.M.EncodeMetric (own_metrics l.fn.registry.facts ++ listed_forest (forest_of (take l.subsystem-index l.subsystem-items))) (collected l.fn.encoder) (collected l.encoder);
  accepting : l.encoder.refused ≡ None;
}
