use Rattle.std.proofs.Common.{◌≡◌, ℕ, List, Some, sym, ap, ◌∙◌, inl}
use Rattle.fm_grammar.specs.LabelPairs.{labels_of}
use Rattle.fm_registry_rules.specs.Tree.{find_child}
use Rattle.fm_registry_rules.proofs.CallLemmas.{subsystem-loan}
use Rattle.std.specs.String.{string_bytes}
use Rattle.fm_registry_rules.specs.Steps.{with_named}
use Rattle.fm_registry_rules.proofs.ForestLemmas.{index_in-IsIndex}
use Rattle.fm_core.proofs.SoundLemmas.{LoanReads-sound}
use Rattle.fm_core.proofs.registry.tree.Registry.labelled_subsystem.Goals as goal

some_same : (x y : List ℕ) → Some x ≡ Some y → x ≡ y
some_same x y e = cc

pub subsystem_at-requires : goal.subsystem_at-requires
subsystem_at-requires g c = (index_in-IsIndex _ _ _ c.in_ok-index.ensures.index).there

pub returns : goal.returns
returns g c =
    let index = index_in-IsIndex c.add_subsystem.new.self.children (string_bytes c.args.name) c.in_ok-index.index c.in_ok-index.ensures.index in
    let reads = subsystem-loan c.args.self.now c.subsystem_at.result.now.registry (string_bytes c.args.name) (labels_of c.args.labels.items) c.in_ok-index.ensures.answer
    (ap (λ t. find_child t.children (string_bytes c.args.name)) (sym c.in_ok-index.ensures.ok) ∙ index.found ∙ c.subsystem_at.ensures.value) in (
      λ i. inl (
        c.subsystem_at.result.ghost_name,
        λ w.
            (ap (λ f. record { facts = c.add_subsystem.new.self.facts; children = f }) (index.replaced (string_bytes w.name) w.registry)
            ∙ ap (λ t. record { facts = t.facts; children = with_named t.children (string_bytes c.args.name) (string_bytes w.name) w.registry }) c.in_ok-index.ensures.ok) i,
      ),
      record {
        writes_back = tt;
        answer = c.in_ok-index.ensures.answer;
        there = c.in_ok-index.ensures.there;
        name =
            let both : Some (string_bytes c.subsystem_at.result.now.name) ≡ Some (string_bytes c.args.name) = sym c.subsystem_at.ensures.name ∙ index.name in
            some_same _ _ both;
        reads = reads;
        sound = λ sound. LoanReads-sound _ _ _ _ (reads sound.history sound.reads);
      },
    )
