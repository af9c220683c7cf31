use Rattle.std.proofs.Common.{drop}
use Rattle.fm_text.specs.inside.LabelTexts.{IsSpan}
use Rattle.fm_text.proofs.LabelTextLemmas.{all_at}
use Rattle.fm_text.proofs.spans.push_after.Goals as goal

pub span_after-requires-clause-span : goal.span_after-requires-clause-span
span_after-requires-clause-span c = all_at (IsSpan (drop c.args.by c.args.whole.now)) c.args.others.now c.loop-span.span-index _ c.requires.others c.loop-span-test.true
