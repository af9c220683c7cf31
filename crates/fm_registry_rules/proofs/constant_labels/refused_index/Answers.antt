use Rattle.std.proofs.Common.{◌≡◌, ◌<◌, Some, None, take, length, refl, sym, ap, subst, ◌∙◌, arith}
use Rattle.std.proofs.lemmas.Option.{slice_get_read}
use Rattle.fm_grammar.specs.LabelPairs.{label_of, labels_of}
use Rattle.fm_registry_rules.specs.Answer.{label_refusal_after}
use Rattle.fm_registry_rules.specs.inside.RootLabels.{label_fault}
use Rattle.fm_registry_rules.proofs.RefusedLabelLemmas.{names_of, refused-at, passed-at}
use Rattle.fm_registry_rules.proofs.constant_labels.refused_index.Goals as goal

pub returns-then-is_refused_after : goal.returns-then-is_refused_after
returns-then-is_refused_after c =
    let labels = c.args.labels.now in
    let index = c.loop-index.index in
    let label = c.index-labels-index.result in
    let within : index < length labels = omega arith in
    let name = c.as_str.ensures.value ∙ ap (λ x. (label_of x).name) (sym c.index-labels-index.is) in
    refused-at labels index label (slice_get_read labels (length labels) index label refl within c.index-labels-index.is) c.loop-index.invariant
    (subst (λ n. label_refusal_after (names_of (labels_of (take index labels))) n ≡ Some (label_fault n)) name c.if-is_refused_after.ensures)

pub loop-index-preserved : goal.loop-index-preserved
loop-index-preserved c =
    let labels = c.args.labels.now in
    let index = c.loop-index.index in
    let label = c.index-labels-index.result in
    let within : index < length labels = omega arith in
    let name = c.as_str.ensures.value ∙ ap (λ x. (label_of x).name) (sym c.index-labels-index.is) in
    passed-at labels index label (slice_get_read labels (length labels) index label refl within c.index-labels-index.is) c.loop-index.invariant
    (subst (λ n. label_refusal_after (names_of (labels_of (take index labels))) n ≡ None) name c.if-is_refused_after.ensures)
