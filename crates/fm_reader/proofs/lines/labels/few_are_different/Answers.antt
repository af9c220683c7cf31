use Rattle.std.proofs.Common.{rules, [], ◌<◌, length, take, subst, true≢false, sym, ◌∙◌, arith}
use Rattle.fm_grammar.specs.LabelPairs.{shown_label}
use Rattle.fm_grammar.specs.Exposition.{Text}
use Rattle.fm_reader.proofs.NameSets.{IsFresh, names_of, names_at, names_length, different_at, different_more}
use Rattle.fm_reader.proofs.lines.labels.few_are_different.Goals as goal

pub returns-then-not-is_new : goal.returns-then-not-is_new
returns-then-not-is_new c =
    let label_within : c.loop-index.index < length c.args.labels.now = search rules in
    let within : c.loop-index.index < length (names_of c.args.labels.now) = omega (arith, names_length c.args.labels.now, label_within) in
    let same = names_at c.args.labels.now c.loop-index.index [] (shown_label c.at.result) c.at.ensures in (
      λ never. absurd (true≢false (sym never)),
      λ all. absurd (true≢false (sym (c.is_new.ensures.1 (subst (λ (name : Text). IsFresh name (take c.loop-index.index (names_of c.args.labels.now))) same (different_at (names_of c.args.labels.now) c.loop-index.index [] within all))) ∙ c.if-not-is_new.true)),
    )

pub loop-index-preserved : goal.loop-index-preserved
loop-index-preserved c =
    let label_within : c.loop-index.index < length c.args.labels.now = search rules in
    let within : c.loop-index.index < length (names_of c.args.labels.now) = omega (arith, names_length c.args.labels.now, label_within) in
    let same = names_at c.args.labels.now c.loop-index.index [] (shown_label c.at.result) c.at.ensures in
    different_more (names_of c.args.labels.now) c.loop-index.index [] within c.loop-index.invariant
    (subst (λ (name : Text). IsFresh name (take c.loop-index.index (names_of c.args.labels.now))) (sym same) (c.is_new.ensures.0 (search rules)))
