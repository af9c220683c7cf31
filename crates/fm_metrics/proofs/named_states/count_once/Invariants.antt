use Rattle.std.proofs.Common.{◌≡◌, ◌≤◌, length, map, take}
use Rattle.fm_metrics.specs.NamedStates.{each_once}
use Rattle.fm_metrics.proofs.named_states.count_once.Given as goal

abbrev pub invariant-loop-i : goal.invariant-loop-i
invariant-loop-i l =
    (l.count ≡ length (each_once (take l.i (map (λ name. name.now) l.names)))) × (l.count ≤ l.i)
