use Rattle.std.proofs.Common.{◌≡◌}
use Rattle.fm_registry_rules.specs.Texts.{merge_labels}
use Rattle.fm_grammar.specs.LabelPairs.{labels_of}
use Rattle.fm_registry_rules.specs.Lists.{seen_labels}
use Rattle.fm_registry_rules.proofs.constant_labels.merged_labels.Given as goal

abbrev pub invariant-loop-label : goal.invariant-loop-label
invariant-loop-label l =
    (goal.iterator-loop-label).can_next l.label-iterator ×
    (goal.iterator-loop-label).is_finite l.label-iterator ×
    (labels_of l.merged.items ≡ merge_labels (seen_labels l.fn.parent) (labels_of l.yielded))
