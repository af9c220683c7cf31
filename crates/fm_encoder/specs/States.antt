-- A state as it is emitted: its text, and whether it is on.
use Rattle.std.specs.Prelude.{Bool}
use Rattle.std.specs.Borrow.{Bor}
use Rattle.fm_grammar.specs.Exposition.{Text}

abbrev pub state_of : Bor Text × Bool → Text × Bool
state_of state = (state.0.now, state.1)
