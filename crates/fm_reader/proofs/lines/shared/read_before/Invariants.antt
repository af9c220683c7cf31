use Rattle.std.proofs.Common.{◌≡◌, ◌++◌, length}
use denote.Text.{Utf8}
use denote.Shadow.{shadow}
use Rattle.fm_reader.specs.inside.Fronts.{AreNamed}
use Rattle.fm_reader.proofs.LabelLists.{with_commas}
use Rattle.fm_reader.proofs.lines.shared.read_before.Given as goal

-- the text is the labels so far, each with its comma, and the rest
abbrev pub invariant-loop-labels : goal.invariant-loop-labels
invariant-loop-labels l = record {
  is_text : shadow (Utf8 l.rest);
  named : AreNamed l.labels;
  so_far : l.fn.text ≡ with_commas l.labels ++ l.rest;
}

abbrev pub decreases-loop-labels : goal.decreases-loop-labels
decreases-loop-labels l = length l.rest
