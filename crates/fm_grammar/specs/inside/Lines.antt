-- Reading a document line by line: the states of a reader, and which line leads from one to the next.
use Rattle.std.specs.Prelude.{◌≡◌, ◌+◌, ⊤, List, [], ◌∷◌, ◌++◌, Option, Some, None}
use Rattle.fm_grammar.specs.declared.MetricType.{MetricType}
use Rattle.fm_grammar.specs.Exposition.{Text, Sample, Family}
use Rattle.fm_grammar.specs.Names.{IsSnakeCase}
use Rattle.fm_grammar.specs.WellFormed.{UnitFits, UnitAllowed, IsSample}
use Rattle.fm_grammar.specs.Document.{IsTypeLine, IsHelpLine, IsUnitLine, IsSampleLine}
use Rattle.fm_grammar.specs.inside.Words.{IsLastLine}
use Rattle.fm_grammar.specs.Reading.{IsNewName}

-- The state of a reader after some lines: after a family's type and help lines and maybe more (after none at the
-- start), after a type line, or after the last line. Each has the finished families.
pub data State : Type 0 where
  Open : List Family → Option Family → State
  Headed : List Family → Text → MetricType → State
  Ended : List Family → State

abbrev pub closed : List Family → Option Family → List Family
closed finished None = finished
closed finished (Some family) = finished ++ (family ∷ [])

-- a family after its type line and its help line
abbrev pub bare_family : Text → MetricType → Text → Family
bare_family name metric_type help = record { name = name; metric_type = metric_type; help = help; unit = None; samples = [] }

abbrev pub with_unit : Family → Text → Family
with_unit family unit = record { name = family.name; metric_type = family.metric_type; help = family.help; unit = Some unit; samples = family.samples }

abbrev pub with_sample : Family → Sample → Family
with_sample family sample = record { name = family.name; metric_type = family.metric_type; help = family.help; unit = family.unit; samples = family.samples ++ (sample ∷ []) }

-- the line leads from the state before it to the state after it
pub data Follows : State → Text → State → Type 0 where
  type_line : {finished : List Family} {current : Option Family} {line name : Text} {metric_type : MetricType}
      → IsTypeLine line name metric_type → IsSnakeCase name → IsNewName name (closed finished current)
      → Follows (Open finished current) line (Headed (closed finished current) name metric_type)
  help_line : {finished : List Family} {name line help : Text} {metric_type : MetricType}
      → IsHelpLine line name help
      → Follows (Headed finished name metric_type) line (Open finished (Some (bare_family name metric_type help)))
  unit_line : {finished : List Family} {family : Family} {line unit : Text}
      → IsUnitLine line family.name unit → family.unit ≡ None → family.samples ≡ []
      → UnitFits family.name (Some unit) → UnitAllowed family.metric_type (Some unit)
      → Follows (Open finished (Some family)) line (Open finished (Some (with_unit family unit)))
  sample_line : {finished : List Family} {family : Family} {line : Text} {sample : Sample}
      → IsSampleLine line family.name sample → IsSample family.metric_type sample
      → Follows (Open finished (Some family)) line (Open finished (Some (with_sample family sample)))
  last_line : {finished : List Family} {current : Option Family} {line : Text}
      → IsLastLine line
      → Follows (Open finished current) line (Ended (closed finished current))

-- lines lead from a state to a state
abbrev pub Leads : State → List Text → State → Type 0
Leads before [] after = before ≡ after
Leads before (line ∷ lines) after = (next : State) × Follows before line next × Leads next lines after

abbrev pub start : State
start = Open [] None

abbrev pub IsEnded : State → Type 0
IsEnded (Ended e) = ⊤
IsEnded _ = ⊥
