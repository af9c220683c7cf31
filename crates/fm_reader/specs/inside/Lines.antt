-- What is found in a line: the parts of a line of some kind, or that the line is not of that kind.
use Rattle.std.specs.Prelude.{Option, Some, None}
use Rattle.std.specs.Borrow.{Bor}
use Rattle.fm_grammar.specs.declared.MetricType.{MetricType}
use Rattle.fm_grammar.specs.Exposition.{Text, Sample}
use Rattle.fm_grammar.specs.Names.{IsSnakeCase}
use Rattle.fm_grammar.specs.WellFormed.{UnitFits, UnitAllowed, IsSample}
use Rattle.fm_grammar.specs.Document.{IsTypeLine, IsHelpLine, IsUnitLine, IsSampleLine}

-- a family's name and its type
abbrev pub FoundType : Text → Option (Text × MetricType) → Type 0
FoundType line None = (name : Text) (metric_type : MetricType) → IsSnakeCase name → IsTypeLine line name metric_type → ⊥
FoundType line (Some (name, metric_type)) = IsSnakeCase name × IsTypeLine line name metric_type

-- the help text of the family with this name
abbrev pub FoundHelp : Text → Text → Option Text → Type 0
FoundHelp line name None = (help : Text) → IsHelpLine line name help → ⊥
FoundHelp line name (Some help) = IsHelpLine line name help

-- the unit of the family with this name and type
abbrev pub FoundUnit : Text → Text → MetricType → Option Text → Type 0
FoundUnit line name metric_type None = (unit : Text) → IsUnitLine line name unit → UnitFits name (Some unit) → UnitAllowed metric_type (Some unit) → ⊥
FoundUnit line name metric_type (Some unit) = IsUnitLine line name unit × UnitFits name (Some unit) × UnitAllowed metric_type (Some unit)

-- a sample of the family with this name and type
abbrev pub FoundSample : Text → Text → MetricType → Option Sample → Type 0
FoundSample line name metric_type None = (sample : Sample) → IsSampleLine line name sample → IsSample metric_type sample → ⊥
FoundSample line name metric_type (Some sample) = IsSampleLine line name sample × IsSample metric_type sample

-- a borrowed name and a type
abbrev pub shown_type : Bor Text × MetricType → Text × MetricType
shown_type pair = (pair.0.now, pair.1)
