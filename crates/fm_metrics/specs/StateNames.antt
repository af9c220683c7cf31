-- The names of a state set that were given when it was made.
use Rattle.std.specs.Prelude.{List, map, string_bytes}
use Rattle.std.specs.Arc.{arc_value}
use Rattle.fm_grammar.specs.Exposition.{Text}
use Rattle.fm_metrics.specs.declared.named_states.NamedStates.{NamedStates}

-- the names of the states, which the clones of a state set share
abbrev pub state_names : NamedStates → List Text
state_names states = map string_bytes (arc_value states.named).names.items
