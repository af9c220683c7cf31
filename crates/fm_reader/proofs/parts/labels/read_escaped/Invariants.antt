use Rattle.std.proofs.Common.{◌≡◌, ◌++◌, string_bytes, length}
use denote.Text.{Utf8}
use denote.Shadow.{shadow}
use Rattle.fm_grammar.specs.Spelling.{escaped}
use Rattle.fm_reader.proofs.parts.labels.read_escaped.Given as goal

-- what was read is the text of the value so far
abbrev pub invariant-loop-c : goal.invariant-loop-c
invariant-loop-c l = record { is_text : shadow (Utf8 l.rest); so_far : l.fn.text ≡ escaped (string_bytes l.value) ++ l.rest }

abbrev pub decreases-loop-c : goal.decreases-loop-c
decreases-loop-c l = length l.rest
