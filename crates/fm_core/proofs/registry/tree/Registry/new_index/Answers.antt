use Rattle.std.proofs.Common.{◌≡◌, refl, ap, subst, ◌∙◌, sym, OnOk}
use Rattle.fm_grammar.specs.LabelPairs.{labels_of}
use Rattle.std.specs.String.{string_bytes}
use Rattle.fm_core.specs.inside.TreeView.{forest_of, facts_of, tree_of}
use Rattle.fm_registry_rules.specs.Steps.{with_subsystem}
use Rattle.fm_registry_rules.specs.inside.Forests.{index_in, new_tree}
use Rattle.fm_registry_rules.specs.Lists.{items_of}
use Rattle.fm_core.proofs.PushLemmas.{pushed-index, pushed-tree}
use Rattle.fm_core.proofs.registry.tree.Registry.new_index.Goals as goal

pub returns-in-Ok-clause-index : goal.returns-in-Ok-clause-index
returns-in-Ok-clause-index g c =
    pushed-index c.push_subsystem.result (items_of c.self.inside.subsystems) (items_of c.push_subsystem.new.subsystems) (record { name = c.args.name; registry = c.in-Ok.registry }) (string_bytes c.args.name) refl
    (ap (λ t. index_in t.children (string_bytes c.args.name)) c.self.view_is ∙ c.requires.absent)
    c.push_subsystem.ensures.index c.push_subsystem.ensures.ok

pub returns-in-Ok-clause-ok : goal.returns-in-Ok-clause-ok
returns-in-Ok-clause-ok g c =
    subst (λ t. OnOk c.push_subsystem.result (record { facts = facts_of c.self.inside; children = forest_of (items_of c.push_subsystem.new.subsystems) } ≡ with_subsystem t (string_bytes c.args.name) (labels_of c.args.labels.items))) c.self.view_is
    (pushed-tree c.push_subsystem.result (tree_of c.self.inside) (items_of c.self.inside.subsystems) (items_of c.push_subsystem.new.subsystems) (record { name = c.args.name; registry = c.in-Ok.registry }) (string_bytes c.args.name) (labels_of c.args.labels.items) refl refl
    (c.in-Ok.ensures ∙ ap (λ m. new_tree c.args.self.now.facts m (labels_of c.args.labels.items)) c.as_str-2.ensures.value ∙ ap (λ t. new_tree t.facts (string_bytes c.args.name) (labels_of c.args.labels.items)) (sym c.self.view_is))
    (ap (λ t. index_in t.children (string_bytes c.args.name)) c.self.view_is ∙ c.requires.absent)
    c.push_subsystem.ensures.ok)
