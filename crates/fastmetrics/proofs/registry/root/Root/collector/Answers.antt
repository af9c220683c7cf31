use Rattle.std.proofs.Common.{◌≡◌, ◌+◌, suc, Ok, Err, drop, subst, arith}
use Rattle.std.proofs.lemmas.Result.{err_from_is_err_and}
use Rattle.fastmetrics.specs.contracts.registry.kinds.MetricEncodeMetric.TheImpl as metric
use Rattle.fastmetrics.specs.Collectors.{AddsFamilies}
use Rattle.fastmetrics.proofs.CollectorLemmas.{next_family, refused_family, no_family}
use Rattle.fastmetrics.proofs.registry.root.Root.collector.Goals as goal

pub returns-in_err-add_family : goal.returns-in_err-add_family
returns-in_err-add_family g c =
    let types = (metric.types-value g.row.H g.row.X g.H.Waiter g.H.Waiter-dict g.H.Wait g.H.Wait-dict g.H.Clone g.H.Clone-dict g.X.EncodeMetric g.X.EncodeMetric-dict g.X.Destruct-dict).it in
    let one = rw c.in_err-add_family.was at c.add_family.ensures in
    let exit = err_from_is_err_and c.from_residual.result c.from_residual.ensures.1 in
    let place = c.loop-place.place in
    rw (exit.1, exit.2) (c.loop-place.invariant c.add_family.new.self.at (Err c.in_err-add_family.field-0.0) (refused_family g.C.Clone.is_clone g.X.Holds.holds g.M.TypedMetric.TYPE types c.args.collector place place c.args.families.now c.index-families-place.result c.loop-place.self.at c.add_family.new.self.at c.in_err-add_family.field-0.0 (omega arith) c.index-families-place.is one))

pub loop-place-preserved : goal.loop-place-preserved
loop-place-preserved g c =
    let types = (metric.types-value g.row.H g.row.X g.H.Waiter g.H.Waiter-dict g.H.Wait g.H.Wait-dict g.H.Clone g.H.Clone-dict g.X.EncodeMetric g.X.EncodeMetric-dict g.X.Destruct-dict).it in
    let one = rw c.in_ok-add_family.was at c.add_family.ensures in
    let place = c.loop-place.place in
    let one_more : place + 1 ≡ suc place = omega arith in
    λ new result more. c.loop-place.invariant new result (next_family g.C.Clone.is_clone g.X.Holds.holds g.M.TypedMetric.TYPE types c.args.collector place place c.args.families.now c.index-families-place.result c.loop-place.self.at c.add_family.new.self.at new result (omega arith) c.index-families-place.is one
    (subst (λ n. AddsFamilies g.C.Clone.is_clone g.X.Holds.holds g.M.TypedMetric.TYPE types c.args.collector (place + 1) (drop n c.args.families.now) c.add_family.new.self.at new result) one_more more))

pub returns : goal.returns
returns g c =
    let types = (metric.types-value g.row.H g.row.X g.H.Waiter g.H.Waiter-dict g.H.Wait g.H.Wait-dict g.H.Clone g.H.Clone-dict g.X.EncodeMetric g.X.EncodeMetric-dict g.X.Destruct-dict).it in
    let place = c.loop-place.place in
    c.loop-place.invariant c.loop-place.self.at (Ok tt) (no_family g.C.Clone.is_clone g.X.Holds.holds g.M.TypedMetric.TYPE types c.args.collector place place c.args.families.now c.loop-place.self.at (omega arith))
