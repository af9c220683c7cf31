-- The state of a constant state set.
use Rattle.std.specs.declared.cmp.PartialEq.{Ghosts as EqGhosts}
use Rattle.fm_metrics.specs.declared.state_set.StateSetValue.{Ghosts as StateGhosts}
use Rattle.fm_metrics.specs.declared.state_set.ConstStateSet.{ConstStateSet}

-- the state that a constant state set was made with
abbrev pub current_state : {T : Type 0} {states : StateGhosts T} {eq : EqGhosts T} → ConstStateSet T states eq → T
current_state metric = metric.state
