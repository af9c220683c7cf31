use Rattle.std.proofs.Common.{rules, [], ◌<◌, length, true≢false, sym, ◌∙◌, arith}
use Rattle.std.proofs.lemmas.Slice.Eq.{bytes_eq-Decides}
use Rattle.fm_grammar.specs.LabelPairs.{shown_label}
use Rattle.fm_reader.proofs.NameSets.{names_of, names_at, names_length, not_fresh, fresh_more}
use Rattle.fm_reader.proofs.lines.labels.is_new.Goals as goal

pub returns-then-eq : goal.returns-then-eq
returns-then-eq c =
    let within : c.loop-index.index < length (names_of c.args.labels.now) = omega (arith, names_length c.args.labels.now, c.requires, c.loop-index-test.true) in
    let same = names_at c.args.labels.now c.loop-index.index [] (shown_label c.at.result) c.at.ensures in (
      λ never. absurd (true≢false (sym never)),
      λ fresh. absurd (not_fresh c.args.name.now (names_of c.args.labels.now) c.args.before c.loop-index.index c.loop-index-test.true within (same ∙ (bytes_eq-Decides c.at.result.0.now c.args.name.now).0 (sym c.eq.ensures ∙ c.if-eq.true)) fresh),
    )

pub loop-index-preserved : goal.loop-index-preserved
loop-index-preserved c =
    let within : c.loop-index.index < length (names_of c.args.labels.now) = omega (arith, names_length c.args.labels.now, c.requires, c.loop-index-test.true) in
    let same = names_at c.args.labels.now c.loop-index.index [] (shown_label c.at.result) c.at.ensures in
    fresh_more c.args.name.now (names_of c.args.labels.now) c.loop-index.index within
    (λ e. true≢false (sym ((bytes_eq-Decides c.at.result.0.now c.args.name.now).1 (sym same ∙ e)) ∙ sym c.eq.ensures ∙ c.if-eq.false)) c.loop-index.invariant
