use Rattle.std.proofs.Common.{◌⊎◌, inl, inr, subst}
use Rattle.std.proofs.lemmas.Result.{IfErr-weaker}
use Rattle.fm_registry_rules.specs.Tree.{Tree}
use Rattle.fastmetrics.specs.Fits.{HasOwnFault}
use Rattle.fastmetrics.proofs.registry.root.Root.encode_into.Goals as goal

pub returns-clause-refused : goal.returns-clause-refused
returns-clause-refused g c =
    IfErr-weaker c.encode.result _ _
    (λ k refused not_writers. (
      (refused not_writers).0,
      elim (refused not_writers).1 [
        | inl memory ↦ inl memory
        | inr fault ↦ inr (subst (λ (t : Tree _). HasOwnFault g.X.EncodeMetric k t) c.registry.ensures.shown (c.only_own_faults.ensures.faults k c.registry.result.now c.registry.ensures.sound fault))
      ],
    ))
    c.encode.ensures.refused
