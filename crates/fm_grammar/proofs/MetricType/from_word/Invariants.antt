use Rattle.std.proofs.Common.{◌≢◌, take}
use Rattle.std.specs.List.{All}
use Rattle.fm_grammar.specs.Kinds.{type_word}
use Rattle.fm_grammar.proofs.MetricType.from_word.Given as goal

-- no type so far has the word
abbrev pub invariant-loop-metric_type : goal.invariant-loop-metric_type
invariant-loop-metric_type l = All (λ m. l.word ≢ type_word m) (take l.metric_type-index l.metric_type-items)
