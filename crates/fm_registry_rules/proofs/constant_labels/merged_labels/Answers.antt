use Rattle.std.proofs.Common.{◌∙◌, ap, sym, [], ◌∷◌}
use Rattle.std.proofs.lemmas.List.{map-append}
use Rattle.fm_registry_rules.specs.Texts.{set_label, merge_labels}
use Rattle.fm_grammar.specs.LabelPairs.{label_of, labels_of}
use Rattle.fm_registry_rules.specs.Lists.{seen_labels}
use Rattle.fm_registry_rules.proofs.LabelLemmas.{merge_labels-more}
use Rattle.fm_registry_rules.proofs.constant_labels.merged_labels.Goals as goal

pub loop-label-preserved : goal.loop-label-preserved
loop-label-preserved c = (
  tt,
  tt,
  (rw c.in_ok-set_label.was at c.set_label.ensures)
      ∙ ap (λ ls. set_label ls (label_of c.in-Some.label)) c.loop-label.invariant.2
      ∙ sym (ap (merge_labels (seen_labels c.args.parent.now)) (map-append label_of c.loop-label.yielded (c.in-Some.label ∷ []))
      ∙ merge_labels-more (seen_labels c.args.parent.now) (labels_of c.loop-label.yielded) (label_of c.in-Some.label)),
)
