use Rattle.std.proofs.Common.{rules, ◌≡◌, ◌∙◌, false, true}
use Rattle.fm_grammar.specs.LabelPairs.{shown_label}
use Rattle.fm_exposition.proofs.LabelLemmas.{read_differ, read_same}
use Rattle.fm_exposition.proofs.finding.has_labels.Goals as goal

pub returns-then-not-is_same_label : goal.returns-then-not-is_same_label
returns-then-not-is_same_label c =
    let told : c.is_same_label.result ≡ false = search rules in
    read_differ shown_label _ _ c.loop-index.index c.label.result c.pair_at.result _ c.is_same_label.ensures c.label.ensures c.pair_at.ensures told ∙ c.loop-index.invariant

pub loop-index-preserved : goal.loop-index-preserved
loop-index-preserved c =
    let told : c.is_same_label.result ≡ true = search rules in
    read_same shown_label _ _ c.loop-index.index c.label.result c.pair_at.result _ c.is_same_label.ensures c.label.ensures c.pair_at.ensures told (search rules) ∙ c.loop-index.invariant
