use Rattle.std.proofs.Common.{refl, sym, subst, true≢false, ◌∙◌, Contains}
use Rattle.std.proofs.lemmas.List.{take_all}
use Rattle.fm_text.specs.inside.LabelTexts.{IsSpan, names_in}
use Rattle.fm_text.proofs.LabelTextLemmas.{all_at}
use Rattle.fm_text.proofs.JoinedLemmas.{name_so, name_not_so}
use Rattle.fm_text.proofs.spans.LabelsAt.has_name_of.Goals as goal

pub bytes-requires : goal.bytes-requires
bytes-requires c = (all_at (IsSpan c.args.others.text.now) c.args.others.spans.now c.loop-span.span-index _ c.requires.others c.loop-span-test.true).name

pub returns-then-has_name : goal.returns-then-has_name
returns-then-has_name c =
    let there = name_so (Contains (names_in c.args.self.text.now c.args.self.spans.now)) c.args.others.text.now c.args.others.spans.now c.loop-span.span-index _ c.loop-span-test.true (rw c.bytes.ensures at (c.has_name.ensures.0 c.if-has_name.true)) in
    (λ _. there, λ _. refl)

pub loop-span-preserved : goal.loop-span-preserved
loop-span-preserved c =
    name_not_so (Contains (names_in c.args.self.text.now c.args.self.spans.now)) c.args.others.text.now c.args.others.spans.now c.loop-span.span-index _ c.loop-span-test.true (λ there. true≢false (sym (c.has_name.ensures.1 (subst (Contains (names_in c.args.self.text.now c.args.self.spans.now)) (sym c.bytes.ensures) there)) ∙ c.if-has_name.false)) c.loop-span.invariant

pub returns : goal.returns
returns c =
    let whole = take_all c.loop-span.span-index c.args.others.spans.now c.loop-span-test.false in
    (λ never. absurd (true≢false (sym never)), λ there. absurd (rw whole at c.loop-span.invariant there))
