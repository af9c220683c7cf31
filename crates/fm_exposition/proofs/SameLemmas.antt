-- The tests of what is seen of values, and that they decide equality.
use Rattle.std.proofs.Common.{◌≡◌, Bool, Option, Some, None, refl, sym, ◌∙◌, IsTrue, ◌↔◌}
use Rattle.std.specs.Bool.{Decides}
use Rattle.std.specs.Option.{option_map, option_eq}
use Rattle.std.specs.Cmp.Derive.Mapped.{pointwise-map}
use Rattle.fm_exposition.specs.inside.SameLaws.{same_value_decides, same_exemplar_decides, same_sample_decides, same_family_decides, same_exposition_decides}

-- a result that a deciding test gives
pub exactly : {P : Type 0} (r s : Bool) → r ≡ s → Decides s P → (IsTrue r ↔ P)
exactly r s e d = (λ h. d.0 (sym e ∙ h), λ p. e ∙ d.1 p)

pub option_eq-map : {X Y : Type 0} (view : Y → X) (E : X → X → Bool) (a b : Option Y) → option_eq (λ x y. E (view x) (view y)) a b ≡ option_eq E (option_map view a) (option_map view b)
option_eq-map view E None None = refl
option_eq-map view E None (Some y) = refl
option_eq-map view E (Some x) None = refl
option_eq-map view E (Some x) (Some y) = refl

pub ruleset same = (same_value_decides, same_exemplar_decides, same_sample_decides, same_family_decides, same_exposition_decides, option_eq-map, pointwise-map)
