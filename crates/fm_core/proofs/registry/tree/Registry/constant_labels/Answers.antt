use Rattle.std.proofs.Common.{[], ap, ◌∙◌}
use Rattle.fm_core.proofs.registry.tree.Registry.constant_labels.Goals as goal

pub returns-clause-history : goal.returns-clause-history
returns-clause-history g c = λ b shows.
    c.labels_of_option.ensures ∙ ap (λ t. t.facts.labels) c.self.view_is ∙ shows.labels []
