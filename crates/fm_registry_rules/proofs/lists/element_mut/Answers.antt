use Rattle.std.proofs.Common.{refl}
use Rattle.std.proofs.lemmas.Option.{slice_get_read}
use Rattle.fm_registry_rules.proofs.lists.element_mut.Goals as goal

pub returns : goal.returns
returns g c = rw c.in-Some.is ((refl, λ w. refl), record { writes_back = tt; value = slice_get_read _ _ _ _ refl (rw c.in-Some.is at c.requires) (rw c.in-Some.is at c.index_mut.ensures.value) })
