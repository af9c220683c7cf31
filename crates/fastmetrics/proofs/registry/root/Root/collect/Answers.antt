use Rattle.std.proofs.Common.{◌⊎◌, inl, inr, subst}
use Rattle.std.proofs.lemmas.Result.{IfErr-weaker}
use Rattle.fm_registry_rules.specs.Tree.{Tree}
use Rattle.fastmetrics.specs.Fits.{HasOwnFault}
use Rattle.fastmetrics.proofs.registry.root.Root.collect.Goals as goal

pub returns-clause-fault : goal.returns-clause-fault
returns-clause-fault g c =
    IfErr-weaker c.collect.result _ _
    (λ k either. elim either [
      | inl memory ↦ inl memory
      | inr fault ↦ inr (subst (λ (t : Tree _). HasOwnFault g.X.EncodeMetric k t) c.registry.ensures.shown (c.only_own_faults.ensures.faults k c.registry.result.now c.registry.ensures.sound fault))
    ])
    c.collect.ensures.fault
