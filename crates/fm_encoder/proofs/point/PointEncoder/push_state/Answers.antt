use Rattle.std.proofs.Common.{◌≡◌, ◌++◌, [], ◌∷◌, subst, sym, ap, ◌∙◌, string_bytes, Contains}
use Rattle.fm_grammar.specs.Exposition.{Text}
use Rattle.fm_grammar.specs.declared.MetricType.TheVariants.{StateSet}
use Rattle.fm_text.specs.inside.LabelTexts.{LabelsState}
use Rattle.fm_labels.specs.Labels.{label_names}
use Rattle.fm_encoder.specs.Gathered.{GatheredPoints}
use Rattle.fm_labels.proofs.NameLemmas.{AreLabels-named}
use Rattle.fm_encoder.proofs.point.PointEncoder.push_state.Goals as goal

pub push_labeled-requires-clause-labels : goal.push_labeled-requires-clause-labels
push_labeled-requires-clause-labels c = rw (← c.self.view_is) (λ h _.
    (let inside = c.self.inside in
    let before = inside.labels.labels in
    let text = c.args.state.now.0.now in
    let fresh = subst (λ (p : GatheredPoints). ¬ (Contains (label_names p.common) p.setting.name)) (sym c.self.view_is) c.requires.fresh in
    let state_set = subst (λ (p : GatheredPoints). p.setting.metric_type ≡ StateSet) (sym c.self.view_is) c.requires.state_set in
    let made = rw c.clear.ensures at c.in_default.ensures in
    let is = ap (λ (s : LabelsState). before ++ s.labels) made ∙ ap (λ (n : Text). before ++ record { name = n; value = text } ∷ []) c.as_str.ensures.value in
    AreLabels-named before _ (record { name = string_bytes inside.name; value = text }) h (c.self.invariant.name state_set) fresh is))
