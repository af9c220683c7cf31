use Rattle.std.proofs.Common.{◌++◌, codes, ap, sym, ◌∙◌}
use Rattle.std.proofs.lemmas.Str.Pattern.{starts_text}
use Rattle.fm_registry_rules.proofs.BelowLemmas.{below_after, not_after}
use Rattle.fm_registry_rules.proofs.names.is_below.Goals as goal

pub returns-in-Some : goal.returns-in-Some
returns-in-Some c = below_after c.args.name.now c.args.text.now c.in-Some.rest.now c.starts_with.result (c.in-Some.ensures.cases.1.1 ∙ ap (λ t. c.args.name.now ++ t) (sym c.in-Some.ensures.cases.2)) (starts_text c.starts_with.result (codes "_") c.in-Some.rest.now c.starts_with.ensures.cases)

pub returns-in-None : goal.returns-in-None
returns-in-None c = not_after c.args.name.now c.args.text.now c.in-None.ensures.cases
