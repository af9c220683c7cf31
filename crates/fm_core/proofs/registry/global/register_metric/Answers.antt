use Rattle.std.proofs.Common.{sym}
use Rattle.fm_core.proofs.registry.global.register_metric.Goals as goal

pub returns : goal.returns
returns g c = record {
  old = c.deref_mut.result.now;
  new = c.add_metric.new.self;
  sound = c.add_metric.ensures.sound;
  registers = record {
    metric_type = c.type_of-metric_type.result;
    declared = c.type_of-metric_type.ensures;
    answer = rw (sym c.add_metric.ensures.registers.declared) c.add_metric.ensures.registers.answer;
    ok = rw (sym c.add_metric.ensures.registers.declared) c.add_metric.ensures.registers.ok;
    err = c.add_metric.ensures.registers.err;
  };
}
