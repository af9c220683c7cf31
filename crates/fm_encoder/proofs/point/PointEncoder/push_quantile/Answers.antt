use Rattle.std.proofs.Common.{◌++◌, [], ◌∷◌, refl, sym, subst, ap, ◌∙◌, codes}
use Rattle.fm_grammar.specs.Numbers.{fixed_text}
use Rattle.fm_grammar.specs.Exposition.{Text}
use Rattle.fm_text.specs.inside.LabelTexts.{LabelsState}
use Rattle.fm_grammar.specs.declared.MetricType.{MetricType}
use Rattle.fm_labels.specs.Labels.{IsReserved}
use Rattle.fm_labels.proofs.NameLemmas.{AreLabels-own}
use Rattle.fm_encoder.proofs.BucketLemmas.{quantile_is_label_name}
use Rattle.fm_encoder.proofs.point.PointEncoder.push_quantile.Goals as goal

pub push_labeled-requires-clause-labels : goal.push_labeled-requires-clause-labels
push_labeled-requires-clause-labels c =
    let common = c.args.self.now.common in
    let made = rw c.clear.ensures at c.in_default.ensures in
    let is = ap (λ (s : LabelsState). common ++ s.labels) made ∙ ap (λ (t : Text). common ++ record { name = codes "quantile"; value = t } ∷ []) (c.format-text.ensures.text ∙ ap fixed_text (c.from.ensures ∙ c.quantile.ensures)) in
    let reserved = subst (λ (type : MetricType). IsReserved type (codes "quantile")) (sym c.requires.summary) refl in
    λ h free. AreLabels-own _ common _ (record { name = codes "quantile"; value = fixed_text c.args.quantile.now.quantile }) h free reserved quantile_is_label_name is
