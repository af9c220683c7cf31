use Rattle.fm_text.specs.inside.LabelTexts.{IsSpan}
use Rattle.fm_text.proofs.LabelTextLemmas.{all_at}
use Rattle.fm_text.proofs.spans.LabelsAt.are.Goals as goal

pub is_pair-requires : goal.is_pair-requires
is_pair-requires c = all_at (IsSpan c.args.self.text.now) c.args.self.spans.now c.loop-i.i _ c.requires c.loop-i-test.true
