use Rattle.std.proofs.Common.{◌≡◌, None, take}
use Rattle.fm_registry_rules.specs.Listing.{own_metrics}
use Rattle.fm_core.specs.inside.Collected.{collected, Adds}
use Rattle.fm_core.proofs.scrape.gather.encode_registry.Given as goal

abbrev pub invariant-loop-index : goal.invariant-loop-index
invariant-loop-index g l = record {
  added : Adds g.M.EncodeMetric (take l.index (own_metrics l.fn.registry.facts)) (collected l.fn.encoder) (collected l.encoder);
  labels : l.encoder.labels ≡ l.fn.registry.facts.labels;
  accepting : l.encoder.refused ≡ None;
}
