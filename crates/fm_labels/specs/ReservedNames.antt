-- Which label names a family of a type may not have.
use Rattle.std.specs.Prelude.{List, Option, None, Some, option_and_then, if◌then◌else◌}
use Rattle.fm_grammar.specs.declared.MetricType.{MetricType}
use Rattle.fm_grammar.specs.Kinds.{reserved_label}
use Rattle.fm_registry_rules.specs.Texts.{Text, has_text}
use Rattle.fm_registry_rules.specs.Answer.{Refusal, ReservedLabel, or_then}
use Rattle.fm_registry_rules.specs.LabelNames.{names_refusal}

-- refused if it is among the names
abbrev pub refused_if_among : List Text → Text → Option Refusal
refused_if_among names reserved = if has_text names reserved then Some (ReservedLabel reserved) else None

-- the refusal of a name that the type reserves for labels of its own
abbrev pub reserved_refusal : MetricType → List Text → Option Refusal
reserved_refusal type names = option_and_then (refused_if_among names) (reserved_label type)

-- why a family of the type refuses its label names
abbrev pub family_names_refusal : MetricType → List Text → Option Refusal
family_names_refusal type names = or_then (names_refusal names) (reserved_refusal type names)
