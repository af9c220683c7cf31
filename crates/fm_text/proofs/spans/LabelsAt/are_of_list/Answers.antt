use Rattle.std.proofs.Common.{refl}
use Rattle.fm_text.specs.inside.LabelTexts.{IsSpan}
use Rattle.fm_text.proofs.LabelTextLemmas.{all_at, one_more_of_list}
use Rattle.fm_text.proofs.spans.LabelsAt.are_of_list.Goals as goal

pub is_pair-requires : goal.is_pair-requires
is_pair-requires c = all_at (IsSpan c.args.self.text.now) c.args.self.spans.now c.loop-i.i _ c.requires c.loop-i-test.true

pub loop-i-preserved : goal.loop-i-preserved
loop-i-preserved c = one_more_of_list _ _ _ _ _ _ c.loop-i-test.true c.loop-i.invariant c.at.ensures (c.if-not-is_pair.ensures refl)
