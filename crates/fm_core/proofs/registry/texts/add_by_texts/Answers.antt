use Rattle.std.proofs.Common.{refl}
use Rattle.fm_core.proofs.GrowthLemmas.{Grows-same}
use Rattle.fm_core.proofs.AddsLemmas.{Adds-named}
use Rattle.fm_core.proofs.registry.texts.add_by_texts.Goals as goal

pub returns-in_err-name-clause-grows : goal.returns-in_err-name-clause-grows
returns-in_err-name-clause-grows g c = Grows-same _ _ refl

pub returns-clause-registers : goal.returns-clause-registers
returns-clause-registers g c =
    Adds-named _ c.in_ok-name.name c.in_ok-name.help _ _ _ _ _ _ _ c.in_ok-name.ensures.name c.in_ok-name.ensures.help c.register_metric.ensures.registers
