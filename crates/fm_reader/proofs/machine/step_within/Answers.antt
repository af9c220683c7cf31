use Rattle.std.proofs.Common.{string_bytes}
use Rattle.fm_reader.proofs.StepLemmas.{unit_follows, sample_follows}
use Rattle.fm_reader.proofs.machine.step_within.Goals as goal

pub returns-in-Some-clause-step : goal.returns-in-Some-clause-step
returns-in-Some-clause-step c =
    unit_follows _ c.args.family c.name.result.now c.metric_type.result c.in-Some.unit.now (string_bytes c.in_ok-unit.unit) c.args.line.now c.with_unit.result c.name.ensures c.metric_type.ensures c.in_ok-unit.ensures.ok c.with_unit.ensures (c.is_bare.ensures.0 c.if-is_bare.true) c.in-Some.ensures

pub returns-clause-step : goal.returns-clause-step
returns-clause-step c = sample_follows _ c.args.family c.args.line.now c.in_ok-add_sample.field-0 c.add_sample.new.self c.if-not-branch.false c.in_ok-add_sample.ensures.added
