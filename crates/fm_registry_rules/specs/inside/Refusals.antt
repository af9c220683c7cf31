-- Refusals of a name, and of a name that exists.
use Rattle.std.specs.Prelude.{◌&&◌, not, List, [], ◌∷◌, Option, is_some}
use Rattle.fm_grammar.specs.NameTests.{is_snake_case}
use Rattle.fm_grammar.specs.Kinds.{takes_unit}
use Rattle.fm_grammar.specs.declared.MetricType.{MetricType}
use Rattle.fm_registry_rules.specs.Texts.{Text}
use Rattle.fm_registry_rules.specs.Registration.{Registration, SeenUnit, text_of_unit}
use Rattle.fm_registry_rules.specs.Taken.{tail_of, tails_of, is_tail_taken}
use Rattle.fm_registry_rules.specs.Answer.{Refusal, first_of, is_bad_unit, has_metric, InvalidNameFormat, MustHaveAnEmptyUnitString, OtherUnitFormatMustBeLowercase, AlreadyExists, NameTaken}

-- why a name with a type and a unit is refused, whichever metrics exist
abbrev pub name_refusal : Text → MetricType → Option SeenUnit → Option Refusal
name_refusal name metric_type unit =
    first_of (
    (not (is_snake_case name), InvalidNameFormat name)
    ∷ (is_some unit && not (takes_unit metric_type), MustHaveAnEmptyUnitString name)
    ∷ (is_bad_unit unit, OtherUnitFormatMustBeLowercase (text_of_unit unit))
    ∷ [])

module _ {M : Type 0} where
  -- why the existing metrics and subsystems refuse a registration
  abbrev pub standing_refusal : List (Registration M) → List Text → Registration M → Option Refusal
  standing_refusal there children registration =
      first_of ((has_metric there registration, AlreadyExists registration.name) ∷ (is_tail_taken (tails_of there) children (tail_of registration), NameTaken registration.name) ∷ [])
