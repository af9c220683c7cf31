use Rattle.std.proofs.Common.{subst, string_bytes}
use Rattle.fm_reader.specs.inside.Steps.{reading_state}
use Rattle.fm_reader.specs.inside.Names.{state_names, HasNames}
use Rattle.fm_reader.proofs.SeenNames.{headed_keeps}
use Rattle.fm_reader.proofs.machine.step.Goals as goal

pub returns-in-Headed-clause-names : goal.returns-in-Headed-clause-names
returns-in-Headed-clause-names c =
    let known = subst (λ r. HasNames c.args.names.now (state_names (reading_state r))) c.in-Headed.is c.requires.names in
    headed_keeps _ c.in-Headed.finished.items (string_bytes c.in-Headed.name) _ _ c.step_headed.result c.step_headed.ensures.step known
