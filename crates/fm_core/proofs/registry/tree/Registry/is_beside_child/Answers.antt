use Rattle.std.proofs.Common.{◌||◌, string_bytes, ◌∙◌, rules, tests}
use Rattle.std.proofs.lemmas.Iterator.{YieldsList-from_slice}
use Rattle.std.proofs.lemmas.Iterator.Search.{any_from_yields_List}
use Rattle.fm_registry_rules.specs.Taken.{is_below}
use Rattle.fm_core.specs.declared.registry.tree.Subsystem.{Subsystem}
use Rattle.fm_core.proofs.TailLemmas.{any_child}
use Rattle.fm_core.proofs.registry.tree.Registry.is_beside_child.Goals as goal

pub returns-in-Some : goal.returns-in-Some
returns-in-Some g c =
    let any = any_from_yields_List (λ (s : Subsystem g.row.M.Denot). is_below (string_bytes s.name) c.args.name.now || is_below c.args.name.now (string_bytes s.name)) _ _ _ c.any.ensures.ran (YieldsList-from_slice c.in-Some.subsystems.items (c.iter.ensures.rest ∙ c.deref.ensures.value)) (λ x b q k. search (rules, tests))
    ∙ any_child (λ name. is_below name c.args.name.now || is_below c.args.name.now name) c.in-Some.subsystems.items in
    rw (← c.self.view_is, c.in-Some.is) any
