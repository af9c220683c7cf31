use Rattle.std.proofs.Common.{subst, string_bytes}
use Rattle.std.proofs.lemmas.Option.{IfSome_then}
use Rattle.std.proofs.lemmas.Result.{IfOk-weaker}
use Rattle.fm_registry_rules.specs.Tree.{Tree}
use Rattle.fastmetrics.specs.Fits.{HasOwnFaultNamed}
use Rattle.fastmetrics.proofs.registry.root.Root.fault.Goals as goal

pub returns-clause-found : goal.returns-clause-found
returns-clause-found g c =
    IfOk-weaker c.fault.result _ _
    (λ found told. IfSome_then found told
    (λ f fault. subst (λ (t : Tree _). HasOwnFaultNamed g.X.EncodeMetric (string_bytes f.name) f.error t) c.registry.ensures.shown (c.only_own_faults.ensures.named f.error c.registry.result.now (string_bytes f.name) c.registry.ensures.sound fault)))
    c.fault.ensures.found
