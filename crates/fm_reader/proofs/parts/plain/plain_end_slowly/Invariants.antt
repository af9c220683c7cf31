use Rattle.std.proofs.Common.{◌≡◌, ◌+◌, ◌-◌, ◌≤◌, length, drop}
use Rattle.std.specs.List.{prefix_len}
use Rattle.fm_reader.specs.inside.Plain.{is_plain}
use Rattle.fm_reader.proofs.parts.plain.plain_end_slowly.Given as goal

abbrev pub invariant-loop-at : goal.invariant-loop-at
invariant-loop-at l =
    (l.from + prefix_len is_plain (drop l.from l.text) ≡ l.at + prefix_len is_plain (drop l.at l.text)) × (l.at ≤ length l.text)

abbrev pub decreases-loop-at : goal.decreases-loop-at
decreases-loop-at l = length l.text - l.at
