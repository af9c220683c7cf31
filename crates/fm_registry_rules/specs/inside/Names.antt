-- The names in one registry, as its code keeps them.
use Rattle.std.specs.Prelude.{◌||◌, Bool, List, [], ◌∷◌, Option}
use Rattle.std.specs.Option.{option_map}
use Rattle.std.specs.String.{string_bytes}
use Rattle.fm_raw.specs.Units.{seen_unit}
use Rattle.fm_raw.specs.declared.metadata.Metadata.{Metadata}
use Rattle.fm_registry_rules.specs.Texts.{Text, has_text, suffixed_name}
use Rattle.fm_registry_rules.specs.Taken.{tail_of, tails_of}
use Rattle.fm_registry_rules.specs.Registration.{Registration, printed_unit}
use Rattle.fm_registry_rules.specs.Answer.{Refusal, AlreadyExists, NameTaken, first_of, has_metric}

-- the tail of a metric with this metadata
abbrev pub metadata_tail : Metadata → Text
metadata_tail metadata = suffixed_name (string_bytes metadata.name) (printed_unit (option_map seen_unit metadata.unit))

-- why the metrics of a registry refuse another; the Bool is whether its tail begins with a subsystem's name and an underscore
abbrev pub refusal_beside : {M : Type 0} → List (Registration M) → Bool → Registration M → Option Refusal
refusal_beside there below registration =
    first_of ((has_metric there registration, AlreadyExists registration.name) ∷ (has_text (tails_of there) (tail_of registration) || below, NameTaken registration.name) ∷ [])
