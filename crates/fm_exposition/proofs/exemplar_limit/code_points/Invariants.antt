use Rattle.std.proofs.Common.{◌≡◌, ◌≤◌, count_by, take}
use Rattle.fm_grammar.specs.inside.Words.{begins_character}
use Rattle.fm_exposition.proofs.exemplar_limit.code_points.Given as goal

abbrev pub invariant-loop-byte : goal.invariant-loop-byte
invariant-loop-byte l = record { counted : l.count ≡ count_by begins_character (take l.byte-index l.byte-items); small : l.count ≤ l.byte-index }
