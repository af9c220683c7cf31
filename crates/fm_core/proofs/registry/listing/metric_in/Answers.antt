use Rattle.std.proofs.Common.{sym}
use Rattle.fm_core.proofs.ListingLemmas.{listed-at}
use Rattle.fm_core.proofs.registry.listing.metric_in.Goals as goal

pub returns : goal.returns
returns g c = listed-at _ _ c.metadata.result.now c.in-Some.metric.now c.args.metrics.now.entries c.args.index c.in-Some.key.now (sym c.in-Some.ensures.entry) c.metadata.ensures
