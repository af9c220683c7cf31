use Rattle.std.proofs.Common.{◌≡◌, false, map, take}
use Rattle.fm_grammar.specs.LabelPairs.{labels_of}
use Rattle.fm_registry_rules.specs.Texts.{has_text}
use Rattle.fastmetrics.proofs.registry.fitting.has_label.Given as goal

abbrev pub invariant-loop-label : goal.invariant-loop-label
invariant-loop-label l = has_text (map (λ label. label.name) (labels_of (take l.label-index l.labels))) l.name ≡ false
