use Rattle.std.proofs.Common.{inl, inr, sym}
use Rattle.fastmetrics.specs.Collectors.{IsFamilyAt}
use Rattle.fastmetrics.proofs.registry.root.Root.add_family.Goals as goal

pub returns : goal.returns
returns g c =
    let family = c.in_ok-family in
    let is_family : IsFamilyAt g.C.Clone.is_clone c.args.collector.now c.args.place c.args.description.now family.family = record { names = family.ensures.names; clone = rw family.ensures.collector.0 c.in-Ok.ensures.cases; at = family.ensures.collector.1 } in
    elim family.ensures.answer [
      | inl none ↦ absurd cc
      | inr none ↦ inr (inr (sym none, (family.family, c.hold.result, c.in_ok-unit.unit, is_family, c.hold.ensures, c.in_ok-unit.ensures, c.add_metric.ensures)))
    ]
