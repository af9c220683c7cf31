use Rattle.std.proofs.Common.{[], refl, subst}
use Rattle.std.specs.String.{string_bytes}
use Rattle.fm_core.specs.HasHistory.{Grows}
use Rattle.fm_core.proofs.GrowthLemmas.{Grows-sound, Grows-lent}
use Rattle.calling.proofs.registries.register_in_seconds.Goals as goal

pub returns : goal.returns
returns g c =
    let lent = c.in_ok-subsystem.field-0.now in
    let grows = subst (λ t. Grows t c.register_with_unit.new.self) c.deref_mut.ensures.shows c.register_with_unit.ensures.grows in
    Grows-sound c.args.registry.now _
    (Grows-lent c.args.registry.now (string_bytes c.args.below) [] lent.registry _ _ (string_bytes lent.name)
    c.in_ok-subsystem.ensures.reads c.in_ok-subsystem.ensures.name refl grows)
    c.requires
