use Rattle.std.proofs.Common.{refl, ap, sym, ◌∙◌}
use Rattle.std.specs.String.{string_bytes}
use Rattle.std.specs.Option.{option_map}
use Rattle.fm_registry_rules.specs.Lists.{items_of}
use Rattle.fm_registry_rules.specs.inside.Forests.{nth_in, nth_name, with_nth}
use Rattle.fm_core.proofs.ForestLemmas.{within-nth_in, nth_in-forest_of, nth_name-forest_of, forest_of-with_item}
use Rattle.fm_core.proofs.registry.tree.Registry.subsystem_at.Goals as goal

pub element_mut-requires : goal.element_mut-requires
element_mut-requires g c = within-nth_in _ _ (rw (← c.subsystems_mut.ensures.value) at c.requires)

pub returns : goal.returns
returns g c = (
  (refl, λ w. ap (λ f. record { facts = c.args.self.now.facts; children = f }) (forest_of-with_item _ _ w ∙ ap (λ f. with_nth f c.args.index (string_bytes w.name) w.registry) c.subsystems_mut.ensures.value)),
  record {
    writes_back = tt;
    value = ap (λ f. nth_in f c.args.index) (sym c.subsystems_mut.ensures.value) ∙ nth_in-forest_of (items_of c.subsystems_mut.result.now) c.args.index ∙ ap (option_map (λ s. s.registry)) c.element_mut.ensures.value;
    name = ap (λ f. nth_name f c.args.index) (sym c.subsystems_mut.ensures.value) ∙ nth_name-forest_of (items_of c.subsystems_mut.result.now) c.args.index ∙ ap (option_map (λ s. string_bytes s.name)) c.element_mut.ensures.value;
  },
)
