use Rattle.std.proofs.Common.{◌≡◌, ℕ, List, Some, refl, sym, ap, ◌∙◌, true≢false}
use Rattle.std.specs.String.{string_bytes}
use Rattle.fm_registry_rules.proofs.ForestLemmas.{index_in-IsIndex}
use Rattle.fm_registry_rules.proofs.PushLemmas.{find_child-none}
use Rattle.fm_core.proofs.registry.tree.Registry.child_mut.Goals as goal

some_same : (x y : List ℕ) → Some x ≡ Some y → x ≡ y
some_same x y e = cc

pub subsystem_at-requires : goal.subsystem_at-requires
subsystem_at-requires g c = (index_in-IsIndex _ _ _ (sym c.index_of.ensures ∙ c.in-Some.is)).there

pub unreachable-requires : goal.unreachable-requires
unreachable-requires g c = true≢false (sym (rw (find_child-none c.args.self.now.children c.args.name.now 0 (sym c.index_of.ensures ∙ c.in-None.is)) at c.requires))

pub returns : goal.returns
returns g c =
    let index = index_in-IsIndex c.args.self.now.children c.args.name.now c.in-Some.index (sym c.index_of.ensures ∙ c.in-Some.is) in (
      (refl, λ w. ap (λ f. record { facts = c.args.self.now.facts; children = f }) (index.replaced (string_bytes w.name) w.registry)),
      (
        index.found ∙ c.subsystem_at.ensures.value,
        let both : Some (string_bytes c.subsystem_at.result.now.name) ≡ Some c.args.name.now = sym c.subsystem_at.ensures.name ∙ index.name in
            some_same _ _ both,
      ),
    )
