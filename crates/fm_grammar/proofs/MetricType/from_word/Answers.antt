use Rattle.fm_grammar.proofs.TypeWords.{type_more, no_type}
use Rattle.fm_grammar.proofs.MetricType.from_word.Goals as goal

pub loop-metric_type-preserved : goal.loop-metric_type-preserved
loop-metric_type-preserved c = type_more c.args.word.now c.all-metric_type-items.result.now c.loop-metric_type.metric_type-index _ c.has_word.result c.loop-metric_type-test.true c.has_word.ensures c.if-has_word.false c.loop-metric_type.invariant

pub returns : goal.returns
returns c = no_type c.args.word.now c.all-metric_type-items.result.now c.loop-metric_type.metric_type-index c.all-metric_type-items.ensures c.loop-metric_type-test.false c.loop-metric_type.invariant
