use Rattle.std.proofs.Common.{refl, sym, true≢false, ◌∙◌}
use Rattle.std.proofs.lemmas.List.{take_all}
use Rattle.fm_text.specs.inside.LabelTexts.{IsSpan}
use Rattle.fm_text.proofs.LabelTextLemmas.{all_at, name_there, name_absent}
use Rattle.fm_text.proofs.spans.LabelsAt.has_name.Goals as goal

pub is_named-requires : goal.is_named-requires
is_named-requires c = all_at (IsSpan c.args.self.text.now) c.args.self.spans.now c.loop-span.span-index _ c.requires c.loop-span-test.true

pub returns-then-is_named : goal.returns-then-is_named
returns-then-is_named c =
    let there = name_there c.args.self.text.now c.args.self.spans.now c.loop-span.span-index _ c.args.name.now c.loop-span-test.true (c.is_named.ensures.0 c.if-is_named.true) in
    (λ _. there, λ _. refl)

pub loop-span-preserved : goal.loop-span-preserved
loop-span-preserved c =
    name_absent c.args.self.text.now c.args.self.spans.now c.loop-span.span-index _ c.args.name.now c.loop-span-test.true (λ same. true≢false (sym (c.is_named.ensures.1 same) ∙ c.if-is_named.false)) c.loop-span.invariant

pub returns : goal.returns
returns c =
    let whole = take_all c.loop-span.span-index c.args.self.spans.now c.loop-span-test.false in
    (λ never. absurd (true≢false (sym never)), λ there. absurd (rw whole at c.loop-span.invariant there))
