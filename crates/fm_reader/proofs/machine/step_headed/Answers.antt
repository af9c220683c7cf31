use Rattle.std.proofs.Common.{ap, string_bytes}
use Rattle.std.specs.Option.{option_map}
use Rattle.fm_reader.proofs.StepLemmas.{headed_refuses, headed_follows}
use Rattle.fm_reader.proofs.machine.step_headed.Goals as goal

pub returns-in_default-clause-step : goal.returns-in_default-clause-step
returns-in_default-clause-step c =
    headed_refuses _ (string_bytes c.args.name) c.deref.result.now _ _ _ c.deref.ensures (ap (option_map string_bytes) c.in_default.is) c.in_ok-help.ensures

pub returns-clause-step : goal.returns-clause-step
returns-clause-step c =
    headed_follows _ (string_bytes c.args.name) c.deref.result.now (string_bytes c.in-Some.help) _ _ _ c.in_ok-samples.samples.samples c.deref.ensures (ap (option_map string_bytes) c.in-Some.is) (ap (λ s. s.samples) c.in_ok-samples.ensures) c.in_ok-help.ensures
