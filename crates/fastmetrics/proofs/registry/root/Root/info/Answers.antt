use Rattle.std.proofs.Common.{inr, ap, ◌∙◌}
use Rattle.fm_grammar.specs.LabelPairs.{labels_of}
use Rattle.fastmetrics.proofs.registry.root.Root.info.Goals as goal

pub returns : goal.returns
returns g c = inr (c.new.result, (ap (λ v. labels_of v.items) c.new.ensures ∙ c.in_ok-facts.ensures), rw c.from.ensures at c.add_metric.ensures)
