-- What a registry keeps about a registered metric.
use Rattle.std.specs.Prelude.{Bool, false, true, ◌&&◌, [], Option, None, Some}
use Rattle.std.specs.Option.{option_map}
use Rattle.std.specs.Str.{bytes_eq}
use Rattle.fm_grammar.specs.Exposition.{Text}
pub use Rattle.fm_raw.specs.Units.{SeenUnit}
use Rattle.fm_grammar.specs.Kinds.{type_word}
use Rattle.fm_grammar.specs.declared.MetricType.{MetricType}

-- a metric and what it was registered as
pub record Registration (M : Type 0) : Type 0 where
  pub name : Text
  pub help : Text
  pub metric_type : MetricType
  pub unit : Option SeenUnit
  pub metric : M

-- two types are the same if their words are
abbrev pub same_type : MetricType → MetricType → Bool
same_type metric_type other = bytes_eq (type_word metric_type) (type_word other)

-- two flags are the same
abbrev pub same_bool : Bool → Bool → Bool
same_bool true other = other
same_bool false true = false
same_bool false false = true

-- a unit whose text the caller chose differs from every named unit, also if the texts are equal
abbrev pub same_unit : Option SeenUnit → Option SeenUnit → Bool
same_unit None None = true
same_unit None (Some other) = false
same_unit (Some unit) None = false
same_unit (Some unit) (Some other) = same_bool unit.own other.own && bytes_eq unit.text other.text

-- name, type and unit are the same
abbrev pub is_same_metric : {M : Type 0} → Registration M → Registration M → Bool
is_same_metric registration other =
    bytes_eq registration.name other.name && (same_type registration.metric_type other.metric_type && same_unit registration.unit other.unit)

-- a unit's text, or the empty text
abbrev pub text_of_unit : Option SeenUnit → Text
text_of_unit None = []
text_of_unit (Some unit) = unit.text

-- the unit in the exposition
abbrev pub printed_unit : Option SeenUnit → Option Text
printed_unit unit = option_map (λ u. u.text) unit
