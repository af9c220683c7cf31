use Rattle.std.proofs.Common.{◌∙◌, ◌++◌, ap}
use Rattle.fm_core.specs.Seen.{listed_in}
use Rattle.fm_registry_rules.specs.Listing.{listed_tree}
use Rattle.fm_registry_rules.proofs.OrderLemmas.{shown-order}
use Rattle.fm_core.proofs.registry.tree.Registry.listing.Goals as goal

pub returns-clause-history : goal.returns-clause-history
returns-clause-history g c = λ has b shows.
    c.in_ok-list_into.ensures ∙ ap (λ xs. listed_in xs ++ listed_tree c.args.self.now) c.new-list.ensures.items ∙ shown-order c.args.self.now has.history b has.reads shows
