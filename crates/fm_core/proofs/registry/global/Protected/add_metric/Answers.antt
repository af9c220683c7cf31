use Rattle.std.proofs.Common.{refl}
use Rattle.fm_core.proofs.registry.global.Protected.add_metric.Goals as goal

pub returns-clause-registers : goal.returns-clause-registers
returns-clause-registers g c = rw (← c.self.view_is) (record {
  metric_type = c.args.metric_type;
  declared = refl;
  answer = c.add_metric.ensures.answer;
  ok = c.add_metric.ensures.ok;
  err = c.add_metric.ensures.err;
})
