use Rattle.std.proofs.Common.{refl}
use Rattle.std.specs.Fn.{FnOnceReturnsAtMut}
use Rattle.fm_core.proofs.registry.global.with_global_registry_mut.Goals as goal

pub invariant_of-behind-protected : goal.invariant_of-behind-protected
invariant_of-behind-protected g c =
    let gave : FnOnceReturnsAtMut g.F.FnOnce c.args.f c.behind-protected-2.inside.registry c.f.result c.f.new.arg2 = record { shown = _; shows = refl; left = _; met = c.f.ensures; leaves = refl } in
    c.requires.leaves _ _ _ c.behind-protected-2.invariant gave

pub returns : goal.returns
returns g c =
    let gave : FnOnceReturnsAtMut g.F.FnOnce c.args.f c.behind-protected-2.inside.registry c.f.result c.f.new.arg2 = record { shown = _; shows = refl; left = _; met = c.f.ensures; leaves = refl } in
    (_, _, c.behind-protected-2.invariant, gave)
