use Rattle.fm_encoder.specs.declared.metric.EncodeMetric.{Ghosts}
use Rattle.fm_registry_rules.specs.Listing.{order}
use Rattle.fastmetrics.specs.declared.registry.kinds.Metric.{Metric}
use Rattle.fastmetrics.specs.contracts.registry.kinds.MetricEncodeMetric.TheImpl.{ghosts}
use Rattle.fastmetrics.proofs.ConstantPageLemmas.{constant_there, constant_time, constant_only, page_is}
use Rattle.fastmetrics.proofs.registry.root.Root.shows_its_constants.Goals as goal

pub returns : goal.returns
returns g c b text shows (e, admitted, formed, document) constants =
    let declared : Ghosts (Metric g.row.H.Denot g.row.X.Denot) = ghosts g.row.H g.row.X g.H.Waiter g.H.Waiter-dict g.H.Wait g.H.Wait-dict g.H.Clone g.H.Clone-dict g.X.EncodeMetric g.X.EncodeMetric-dict g.X.Destruct-dict in
    page_is declared constant_there constant_time constant_only (order b) e text constants (admitted b shows) document
