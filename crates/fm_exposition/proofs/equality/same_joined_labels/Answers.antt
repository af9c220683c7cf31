use Rattle.std.proofs.Common.{rules, ◌≡◌, ◌∙◌, false, true}
use Rattle.fm_grammar.specs.LabelPairs.{shown_label}
use Rattle.fm_exposition.specs.Samples.{sample_of}
use Rattle.fm_exposition.proofs.LabelLemmas.{end_at, read_differ, read_same}
use Rattle.fm_exposition.proofs.equality.same_joined_labels.Goals as goal

pub returns-then-not-is_same_label : goal.returns-then-not-is_same_label
returns-then-not-is_same_label c =
    let told : c.is_same_label.result ≡ false = search rules in
    read_differ shown_label _ _ c.loop-index.index c.label.result c.label-in-loop-index.result _ c.is_same_label.ensures c.label.ensures c.label-in-loop-index.ensures told ∙ c.loop-index.invariant

pub loop-index-preserved : goal.loop-index-preserved
loop-index-preserved c =
    let told : c.is_same_label.result ≡ true = search rules in
    read_same shown_label _ _ c.loop-index.index c.label.result c.label-in-loop-index.result _ c.is_same_label.ensures c.label.ensures c.label-in-loop-index.ensures told (search rules) ∙ c.loop-index.invariant

pub returns : goal.returns
returns c = end_at (sample_of c.args.one.now).labels (sample_of c.args.other.now).labels c.loop-index.index (search rules) (search rules) ∙ c.loop-index.invariant
