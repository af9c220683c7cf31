use Rattle.std.proofs.Common.{◌≤◌, List, [], sym, subst}
use Rattle.fm_grammar.specs.declared.MetricType.TheVariants.{Unknown}
use Rattle.fm_grammar.specs.Exposition.{Label}
use Rattle.fm_grammar.specs.WellFormed.{label_code_points}
use Rattle.fm_grammar.specs.LabelPairs.{labels_of}
use Rattle.fm_labels.specs.Labels.{LabelsValid, emitted_again}
use Rattle.fm_labels.proofs.LabelsLemmas.{written_again}
use Rattle.fm_encoder.proofs.ExemplarLemmas.{LabelsValid-again}
use Rattle.fm_encoder.proofs.exemplar.exemplar_labels.ExemplarLabels.new.Goals as goal

pub invariant_of-result : goal.invariant_of-result
invariant_of-result g c =
    let read = rw c.in_ok-labels.was at c.written_labels.ensures in
    let labels = labels_of c.in_ok-labels.labels.items in
    let short : label_code_points labels ≤ 128 = rw c.deref.ensures.value at (c.are_short.ensures.0 c.if-not-are_short.false) in (
      subst (λ (ls : List Label). LabelsValid Unknown [] (emitted_again ls)) (sym read.1) (LabelsValid-again Unknown [] _ read.0),
      subst (λ (ls : List Label). label_code_points ls ≤ 128) (sym (written_again labels)) short,
    )
