use Rattle.std.proofs.Common.{◌≡◌, ◌≤◌, drop}
use Rattle.fm_core.specs.Lint.{last_word, last_word_from}
use Rattle.fm_core.proofs.lint.last_word.Given as goal

abbrev pub invariant-loop-index : goal.invariant-loop-index
invariant-loop-index l = record {
  before : l.start ≤ l.index;
  word : last_word_from (drop l.start l.name) (drop l.index l.name) ≡ last_word l.name;
}
