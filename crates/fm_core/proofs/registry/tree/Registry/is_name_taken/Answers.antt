use Rattle.std.proofs.Common.{◌≡◌, string_bytes, refl, ◌∙◌, rules, tests}
use Rattle.std.specs.List.{list_any}
use Rattle.std.specs.Map.{keys_of}
use Rattle.std.proofs.lemmas.Iterator.Consumers.{YieldsList-from_rest}
use Rattle.std.proofs.lemmas.Iterator.Search.{any_from_yields_List}
use Rattle.fm_registry_rules.specs.Taken.{is_below, tails_of}
use Rattle.fm_registry_rules.specs.declared.names.Tailed.{Tailed}
use Rattle.fm_core.proofs.TailLemmas.{any_tail}
use Rattle.fm_core.proofs.registry.tree.Registry.is_name_taken.Goals as goal

pub returns-then-any : goal.returns-then-any
returns-then-any g c =
    let any = any_from_yields_List (λ (k : Tailed). is_below c.args.name.now (string_bytes k.tail)) _ _ _ c.any.ensures.ran (YieldsList-from_rest (keys_of c.in-Some.metrics.entries) c.keys.ensures.rest) (λ x b q k. search (rules, tests))
    ∙ any_tail (λ tail. is_below c.args.name.now tail) c.in-Some.metrics.entries in
    let here : c.any.result ≡ list_any (λ tail. is_below c.args.name.now tail) (tails_of c.args.self.now.facts.metrics) = rw (← c.self.view_is, c.in-Some.is) any in
    rw (← here, c.if-any.true) refl

pub returns-else-any : goal.returns-else-any
returns-else-any g c =
    let any = any_from_yields_List (λ (k : Tailed). is_below c.args.name.now (string_bytes k.tail)) _ _ _ c.any.ensures.ran (YieldsList-from_rest (keys_of c.in-Some.metrics.entries) c.keys.ensures.rest) (λ x b q k. search (rules, tests))
    ∙ any_tail (λ tail. is_below c.args.name.now tail) c.in-Some.metrics.entries in
    let here : c.any.result ≡ list_any (λ tail. is_below c.args.name.now tail) (tails_of c.args.self.now.facts.metrics) = rw (← c.self.view_is, c.in-Some.is) any in
    rw (← here, c.if-any.false) c.is_beside_child.ensures
