use Rattle.fm_text.specs.inside.LabelTexts.{IsSpan}
use Rattle.fm_text.proofs.LabelTextLemmas.{all_at}
use Rattle.fm_text.proofs.spans.LabelsAt.pairs.Goals as goal

pub text-requires : goal.text-requires
text-requires c = (all_at (IsSpan c.args.self.text.now) c.args.self.spans.now c.loop-span.span-index _ c.requires c.loop-span-test.true).name
