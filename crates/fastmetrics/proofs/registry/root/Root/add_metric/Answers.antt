use Rattle.std.proofs.Common.{◌≡◌, Some, IsSome, inr, sym, ap, subst, map}
use Rattle.std.specs.String.{string_bytes}
use Rattle.fm_registry_rules.specs.Tree.{subtree_from}
use Rattle.fm_core.specs.Calls.{seen_path}
use Rattle.fastmetrics.specs.Roots.{SeenRoot}
use Rattle.fastmetrics.specs.declared.registry.kinds.Metric.{Metric}
use Rattle.fastmetrics.specs.contracts.registry.kinds.MetricEncodeMetric.TheImpl.{ghosts}
use Rattle.fastmetrics.specs.inside.FittingMetrics.{Fits, FitsUnderAt}
use Rattle.fastmetrics.proofs.RootLemmas.{added}
use Rattle.fastmetrics.proofs.FitLemmas.{none_refused}
use Rattle.fastmetrics.proofs.FittingLemmas.{fits_at, fitting_adds}
use Rattle.fastmetrics.proofs.registry.root.Root.add_metric.Goals as goal

pub register_at-requires : goal.register_at-requires
register_at-requires g c = rw c.deref.ensures.value (subst (λ (s : SeenRoot _ _). IsSome (subtree_from (Some s.at.tree) s.at.path)) (sym c.self.view_is) c.in_ok-test_fit.ensures.there)

pub invariant_of-self : goal.invariant_of-self
invariant_of-self g c =
    let args = c.args in let inside = c.self.inside in
    let types = (ghosts g.row.H g.row.X g.H.Waiter g.H.Waiter-dict g.H.Wait g.H.Wait-dict g.H.Clone g.H.Clone-dict g.X.EncodeMetric g.X.EncodeMetric-dict g.X.Destruct-dict).types in
    let path = map string_bytes inside.path.items in
    let led : seen_path c.deref.result.now ≡ path = ap seen_path c.deref.ensures.value in
    let under : FitsUnderAt inside.registry path args.name.now args.unit args.metric = subst (λ (s : SeenRoot _ _). FitsUnderAt s.at.tree s.at.path args.name.now args.unit args.metric) (sym c.self.view_is) c.in_ok-test_fit.ensures.fits in
    let adds = added {M = Metric g.row.H.Denot g.row.X.Denot} types path args.name.now args.help.now args.unit args.metric c.in_ok-name.name c.in_ok-help.help c.metric_type-metric_type.result c.deref.result.now inside.registry c.register_at.new.registry _ led c.in_ok-name.ensures.ok c.in_ok-help.ensures.ok c.metric_type-metric_type.ensures
    c.register_at.ensures.reply c.register_at.ensures.ok c.register_at.ensures.err in
    fitting_adds Fits _ _ _ _ _ adds (λ t is. fits_at inside.registry path args.name.now args.help.now args.unit args.metric t under (c.only_own_faults.ensures.types args.metric t is)) c.self.invariant

pub returns : goal.returns
returns g c =
    let args = c.args in let inside = c.self.inside in
    let types = (ghosts g.row.H g.row.X g.H.Waiter g.H.Waiter-dict g.H.Wait g.H.Wait-dict g.H.Clone g.H.Clone-dict g.X.EncodeMetric g.X.EncodeMetric-dict g.X.Destruct-dict).types in
    let path = map string_bytes inside.path.items in
    let led : seen_path c.deref.result.now ≡ path = ap seen_path c.deref.ensures.value in
    let none = rw (← c.self.view_is) at (none_refused _ c.in_ok-test_fit.ensures.answer) in
    let adds = added {M = Metric g.row.H.Denot g.row.X.Denot} types path args.name.now args.help.now args.unit args.metric c.in_ok-name.name c.in_ok-help.help c.metric_type-metric_type.result c.deref.result.now inside.registry c.register_at.new.registry _ led c.in_ok-name.ensures.ok c.in_ok-help.ensures.ok c.metric_type-metric_type.ensures
    c.register_at.ensures.reply c.register_at.ensures.ok c.register_at.ensures.err in
    rw (← c.self.view_is) (inr (inr (none, adds)))
