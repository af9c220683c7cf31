use Rattle.std.proofs.Common.{rules, [], ◌<◌, length, true≢false, sym, arith}
use Rattle.fm_grammar.specs.LabelPairs.{shown_label}
use Rattle.fm_reader.proofs.NameSets.{names_of, names_at, names_length, name_twice, name_new, name_held}
use Rattle.fm_reader.proofs.lines.labels.many_are_different.Goals as goal

pub returns-then-not-branch : goal.returns-then-not-branch
returns-then-not-branch c =
    let label_within : c.loop-index.index < length c.args.labels.now = search rules in
    let within : c.loop-index.index < length (names_of c.args.labels.now) = omega (arith, names_length c.args.labels.now, label_within) in
    let same = names_at c.args.labels.now c.loop-index.index [] (shown_label c.at.result) c.at.ensures in (
      λ never. absurd (true≢false (sym never)),
      λ all. absurd (name_twice c.loop-index.names c.at.result.0 (names_of c.args.labels.now) c.loop-index.index [] c.in_ok-insert.field-0 c.in_ok-insert.ensures.added c.if-not-branch.true c.loop-index.invariant.holds within same all),
    )

pub loop-index-preserved : goal.loop-index-preserved
loop-index-preserved c =
    let label_within : c.loop-index.index < length c.args.labels.now = search rules in
    let within : c.loop-index.index < length (names_of c.args.labels.now) = omega (arith, names_length c.args.labels.now, label_within) in
    let same = names_at c.args.labels.now c.loop-index.index [] (shown_label c.at.result) c.at.ensures in
    record {
      different = name_new c.loop-index.names c.at.result.0 (names_of c.args.labels.now) c.loop-index.index [] c.in_ok-insert.field-0 c.in_ok-insert.ensures.added c.if-not-branch.false c.loop-index.invariant.holds within same c.loop-index.invariant.different;
      holds = name_held c.loop-index.names c.insert.new.self c.at.result.0 (names_of c.args.labels.now) c.loop-index.index [] c.in_ok-insert.ensures.updates c.loop-index.invariant.holds within same;
    }
