use Rattle.std.proofs.Common.{rules, refl}
use Rattle.fm_tally.proofs.tally.Tally.close.Goals as goal

pub returns-then-most-sum-clause-overrun : goal.returns-then-most-sum-clause-overrun
returns-then-most-sum-clause-overrun g c = (
  (λ same. (search rules, λ all. let within = c.gather-most.ensures.least _ all in absurd (search rules))),
  (λ h. refl),
)
