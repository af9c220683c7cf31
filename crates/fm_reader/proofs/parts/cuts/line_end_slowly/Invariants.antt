use Rattle.std.proofs.Common.{◌≡◌, ◌+◌, ◌-◌, ◌≤◌, not, length, drop}
use Rattle.std.specs.List.{prefix_len}
use Rattle.fm_reader.specs.inside.Cuts.{is_feed}
use Rattle.fm_reader.proofs.parts.cuts.line_end_slowly.Given as goal

abbrev pub invariant-loop-at : goal.invariant-loop-at
invariant-loop-at l =
    (l.from + prefix_len (λ x. not (is_feed x)) (drop l.from l.text) ≡ l.at + prefix_len (λ x. not (is_feed x)) (drop l.at l.text)) × (l.at ≤ length l.text)

abbrev pub decreases-loop-at : goal.decreases-loop-at
decreases-loop-at l = length l.text - l.at
