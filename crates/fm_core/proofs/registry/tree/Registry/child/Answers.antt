use Rattle.std.proofs.Common.{option_copied, ap, sym, ◌∙◌, arith}
use Rattle.fm_registry_rules.proofs.ForestLemmas.{index_in-IsIndex}
use Rattle.fm_registry_rules.proofs.PushLemmas.{find_child-none}
use Rattle.fm_core.proofs.ForestLemmas.{within-nth_in, child-forest_of}
use Rattle.fm_core.proofs.registry.tree.Registry.child.Goals as goal

pub returns-in_err-index : goal.returns-in_err-index
returns-in_err-index g c = ap option_copied c.from_residual.ensures ∙ sym (find_child-none c.args.self.now.children c.args.name.now 0 (sym c.index_of.ensures ∙ c.in_err-index.was))

pub index-requires : goal.index-requires
index-requires g c =
    let at = rw (← c.self.view_is, c.in-Some.is) at (sym c.index_of.ensures ∙ c.in_ok-index.was) in
    omega (arith, within-nth_in c.in-Some.subsystems.items c.in_ok-index.index (index_in-IsIndex _ _ _ at).there)

pub returns-in-Some : goal.returns-in-Some
returns-in-Some g c =
    let at = rw (← c.self.view_is, c.in-Some.is) at (sym c.index_of.ensures ∙ c.in_ok-index.was) in
    rw (← c.self.view_is, c.in-Some.is) (child-forest_of c.in-Some.subsystems.items c.args.name.now c.in_ok-index.index c.index.result.now at c.index.ensures)
