use Rattle.std.proofs.Common.{Result, drop}
use Rattle.fm_registry_rules.specs.declared.error.RegistryError.{RegistryError}
use Rattle.fastmetrics.specs.Roots.{RootState}
use Rattle.fastmetrics.specs.Collectors.{AddsFamilies}
use Rattle.fastmetrics.specs.contracts.registry.kinds.MetricEncodeMetric.TheImpl as metric
use Rattle.fastmetrics.proofs.registry.root.Root.collector.Given as goal

-- what registers the families that are left has registered all of them
abbrev pub invariant-loop-place : goal.invariant-loop-place
invariant-loop-place g l =
    let types = (metric.types-value g.row.H g.row.X g.H.Waiter g.H.Waiter-dict g.H.Wait g.H.Wait-dict g.H.Clone g.H.Clone-dict g.X.EncodeMetric g.X.EncodeMetric-dict g.X.Destruct-dict).it in
    (new : RootState _) (result : Result (Unit {0}) RegistryError)
    → AddsFamilies g.C.Clone.is_clone g.X.Holds.holds g.M.TypedMetric.TYPE types l.collector l.place (drop l.place l.families) l.self.at new result
    → AddsFamilies g.C.Clone.is_clone g.X.Holds.holds g.M.TypedMetric.TYPE types l.collector 0 l.families l.initial.self.at new result
