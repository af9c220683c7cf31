use Rattle.std.proofs.Common.{◌≡◌, ◌∙◌, true, ap, Contains}
use Rattle.std.specs.List.{Any}
use Rattle.fm_labels.specs.LabelEncoders.{GatheredLabels}
use Rattle.fm_labels.specs.Labels.{label_names}
use Rattle.fm_labels.proofs.WrittenLemmas.{written_after}
use Rattle.fm_labels.proofs.collecting.constants.add_labels.Goals as goal

pub returns-then-not-has_name_of-clause-gathered : goal.returns-then-not-has_name_of-clause-gathered
returns-then-not-has_name_of-clause-gathered g c =
    let front = c.args.encoder.now.labels in
    let written = c.written.inside.labels.labels in
    let found = rw c.text.ensures at c.has_name_of.ensures in
    let apart : ¬ (Any (Contains (label_names front)) (label_names written)) = λ there. (let yes : c.has_name_of.result ≡ true = found.1 there in absurd cc) in
    let keeps = rw (c.in-Some.is, ← c.written.view_is) at c.requires.written in
    let after = written_after c.args.encoder.now.metric_type front (g.LS.EncodeLabelSet.labels c.args.labels.now) written keeps apart in
    (after.0, ap (λ (e : GatheredLabels). e.labels) c.in_ok-append.ensures.appended ∙ after.1)
