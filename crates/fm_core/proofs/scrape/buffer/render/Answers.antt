use Rattle.fm_core.proofs.StopLemmas.{StopsAt-fault, fault-not_writing}
use Rattle.fm_core.proofs.scrape.buffer.render.Goals as goal

pub returns-in-Err-clause-fault : goal.returns-in-Err-clause-fault
returns-in-Err-clause-fault g c = StopsAt-fault g.M.EncodeMetric c.args.registry.now c.in-Err.stop c.in-Err.ensures.stopped

pub returns-in-Err-clause-not_writing : goal.returns-in-Err-clause-not_writing
returns-in-Err-clause-not_writing g c =
    fault-not_writing g.M.EncodeMetric c.args.registry.now c.in-Err.stop.error c.requires.history (StopsAt-fault g.M.EncodeMetric c.args.registry.now c.in-Err.stop c.in-Err.ensures.stopped)
