use Rattle.std.proofs.Common.{[], Some, sym, ap, ◌∙◌}
use Rattle.std.specs.Option.{option_map}
use Rattle.std.specs.String.{string_bytes}
use Rattle.fm_core.proofs.registry.tree.Registry.namespace.Goals as goal

pub returns-in-Some-clause-history : goal.returns-in-Some-clause-history
returns-in-Some-clause-history g c = λ b shows.
    ap Some c.as_str.ensures.value ∙ ap (option_map string_bytes) (sym c.in-Some.is) ∙ ap (λ t. t.facts.namespace) c.self.view_is ∙ shows.namespace []

pub returns-in-None-clause-history : goal.returns-in-None-clause-history
returns-in-None-clause-history g c = λ b shows.
    ap (option_map string_bytes) (sym c.in-None.is) ∙ ap (λ t. t.facts.namespace) c.self.view_is ∙ shows.namespace []
