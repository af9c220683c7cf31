use Rattle.std.proofs.Common.{refl}
use Rattle.std.specs.Fn.{FnOnceReturnsAt}
use Rattle.fm_family.proofs.MemberLemmas.{CallsMember-found}
use Rattle.fm_family.proofs.family.Family.with.Goals as goal

pub returns-in-Some-clause-looks_up : goal.returns-in-Some-clause-looks_up
returns-in-Some-clause-looks_up g c =
    let members = c.deref-core.result.now.entries in let metric = c.in-Some.metric in
    let called : FnOnceReturnsAt g.F.FnOnce c.args.f metric.now c.f.result = (metric, c.f.ensures, refl) in
    (members, c.are_different.ensures, CallsMember-found g.F.FnOnce c.args.f (g.LS.PartialEq.eq c.args.labels.now) members c.f.result metric.now c.in-Some.ensures called)

pub returns-in-Some-clause-called : goal.returns-in-Some-clause-called
returns-in-Some-clause-called g c = (c.in-Some.metric.now, (c.in-Some.metric, c.f.ensures, refl))
