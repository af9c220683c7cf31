-- The states of a reader, and the state that a line leads to.
use Rattle.std.specs.Prelude.{◌≡◌, Bool, true, false, List, Option, Some, None, string_bytes, []}
use Rattle.std.specs.declared.alloc.Global.{Global}
use Rattle.std.specs.declared.vec.Vec.{Vec}
use Rattle.fm_exposition.specs.declared.exposition.FamilySamples.{FamilySamples}
use Rattle.fm_grammar.specs.Exposition.{Text, Sample, Family}
use Rattle.fm_grammar.specs.declared.MetricType.{MetricType}
use Rattle.fm_grammar.specs.Names.{IsSnakeCase}
use Rattle.fm_grammar.specs.WellFormed.{UnitFits, UnitAllowed, IsSample}
use Rattle.fm_grammar.specs.Document.{IsTypeLine, IsUnitLine, IsSampleLine}
use Rattle.fm_grammar.specs.Reading.{IsNewName}
use Rattle.fm_grammar.specs.inside.Lines.{State, Follows, IsEnded, with_sample}
use Rattle.fm_grammar.specs.inside.Lines as grammar
use Rattle.fm_reader.specs.inside.Lines.{FoundSample}
use Rattle.fm_reader.specs.declared.machine.Reading.{Reading}
use Rattle.fm_reader.specs.declared.machine.Reading.TheVariants.{Open, Headed, Ended}

abbrev pub reading_state : Reading → State
reading_state (Open finished current) = grammar.Open finished.items current
reading_state (Headed finished name metric_type) = grammar.Headed finished.items (string_bytes name) metric_type
reading_state (Ended families) = grammar.Ended families.items

-- the state that the line leads to, or None if it leads to none
abbrev pub IsStep : State → Text → Option Reading → Type 0
IsStep before line None = (next : State) → Follows before line next → ⊥
IsStep before line (Some reading) = Follows before line (reading_state reading)

-- the same after a family's first lines, for a line that is neither a type line nor the last one
abbrev pub IsStepWithin : List Family → Family → Text → Option Reading → Type 0
IsStepWithin finished family line None =
    ((unit : Text) → IsUnitLine line family.name unit → family.unit ≡ None → family.samples ≡ [] → UnitFits family.name (Some unit) → UnitAllowed family.metric_type (Some unit) → ⊥)
    × ((sample : Sample) → IsSampleLine line family.name sample → IsSample family.metric_type sample → ⊥)
IsStepWithin finished family line (Some reading) = Follows (grammar.Open finished (Some family)) line (reading_state reading)

-- the line is a sample line of the family, which then has the sample as its last one, or it is none
abbrev pub IsSampleAdded : Family → Text → Bool → Family → Type 0
IsSampleAdded old line true new = (sample : Sample) × FoundSample line old.name old.metric_type (Some sample) × (new ≡ with_sample old sample)
IsSampleAdded old line false new = FoundSample line old.name old.metric_type None

-- a family's name and its type, if no other family has the name
abbrev pub FoundNewType : List Family → Text → Option (Text × MetricType) → Type 0
FoundNewType families line None = (name : Text) (metric_type : MetricType) → IsTypeLine line name metric_type → IsSnakeCase name → IsNewName name families → ⊥
FoundNewType families line (Some (name, metric_type)) = IsSnakeCase name × IsTypeLine line name metric_type × IsNewName name families

-- the families of a reader after the last line
abbrev pub IsEnding : State → Option (Vec FamilySamples Global) → Type 0
IsEnding state None = IsEnded state → ⊥
IsEnding state (Some families) = state ≡ grammar.Ended families.items
