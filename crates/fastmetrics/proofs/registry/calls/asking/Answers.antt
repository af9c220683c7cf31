use Rattle.std.proofs.Common.{refl}
use Rattle.fastmetrics.proofs.RootLemmas.{path-cloned}
use Rattle.fastmetrics.proofs.registry.calls.asking.Goals as goal

pub returns : goal.returns
returns g c = record {
  names = c.in_ok-clone.field-0;
  own_name = c.in_ok-from_str.field-0;
  own_labels = c.in_ok-owned_labels.field-0;
  is = refl;
  is_path = path-cloned _ _ c.in_ok-clone.ensures.cases.0;
  is_name = c.in_ok-from_str.ensures.ok;
  is_labels = c.in_ok-owned_labels.ensures;
}
