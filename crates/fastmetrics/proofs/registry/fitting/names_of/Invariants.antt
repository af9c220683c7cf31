use Rattle.std.proofs.Common.{◌≡◌, map, take}
use Rattle.fm_grammar.specs.LabelPairs.{labels_of}
use Rattle.fm_registry_rules.specs.LabelNames.{shown_texts}
use Rattle.fastmetrics.proofs.registry.fitting.names_of.Given as goal

abbrev pub invariant-loop-fact : goal.invariant-loop-fact
invariant-loop-fact l = shown_texts l.names.items ≡ map (λ label. label.name) (labels_of (take l.fact-index l.facts))
