use Rattle.std.proofs.Common.{sym, ap, ◌∙◌}
use Rattle.fm_registry_rules.specs.Registration.{is_same_metric}
use Rattle.fm_core.specs.View.{seen_metric}
use Rattle.fm_core.proofs.TailLemmas.{under_tail}
use Rattle.fm_core.proofs.registry.tree.register.standing_under.Goals as goal

pub returns-clause-taken : goal.returns-clause-taken
returns-clause-taken g c = (
  sym c.in_ok-index.ensures.found,
  λ x.
      under_tail c.args.metrics.now.entries c.args.key.now c.in_ok-index.index (c.in_ok-there.there.now, c.in_ok-there.field-0-1.now) c.in_ok-index.ensures.unique (sym c.in_ok-index.ensures.index) (sym c.in_ok-there.ensures.entry) x
      ∙ ap (λ d. is_same_metric (seen_metric c.args.key.now.metadata x) (seen_metric d x)) (sym c.metadata.ensures),
)
