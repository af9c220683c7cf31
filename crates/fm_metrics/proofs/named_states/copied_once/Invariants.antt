use Rattle.std.proofs.Common.{◌≡◌, map, take, string_bytes}
use Rattle.std.specs.List.{IsDistinct}
use Rattle.std.specs.Str.{bytes_eq}
use Rattle.fm_metrics.specs.NamedStates.{each_once}
use Rattle.fm_metrics.proofs.named_states.copied_once.Given as goal

abbrev pub invariant-loop-name : goal.invariant-loop-name
invariant-loop-name l =
    (map string_bytes l.copies.items ≡ each_once (take l.name-index (map (λ name. name.now) l.names)))
    × IsDistinct bytes_eq (map string_bytes l.copies.items)
