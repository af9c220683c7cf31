use Rattle.std.proofs.Common.{◌≡◌, Some, map, ap, sym, ◌∙◌, refl, inr}
use Rattle.std.specs.Option.{option_copied}
use Rattle.std.specs.String.{string_bytes}
use Rattle.fm_registry_rules.specs.Tree.{subtree_from}
use Rattle.fastmetrics.proofs.FitLemmas.{ok_more}
use Rattle.fastmetrics.proofs.registry.root.Root.test_fit.Goals as goal

pub returns-in-Scalar-clause-there : goal.returns-in-Scalar-clause-there
returns-in-Scalar-clause-there g c =
    let inside = c.self.inside in
    let there : subtree_from (Some inside.registry) (map string_bytes inside.path.items) ≡ Some c.in-Some.registry.now = sym (rw c.deref.ensures.value at c.at.ensures) ∙ ap option_copied c.in-Some.is in
    rw (← c.self.view_is, there) refl

pub returns-in-Scalar-clause-answer : goal.returns-in-Scalar-clause-answer
returns-in-Scalar-clause-answer g c =
    let inside = c.self.inside in
    let there : subtree_from (Some inside.registry) (map string_bytes inside.path.items) ≡ Some c.in-Some.registry.now = sym (rw c.deref.ensures.value at c.at.ensures) ∙ ap option_copied c.in-Some.is in
    rw (← c.self.view_is, there, c.in-Scalar.is) (inr refl)

pub returns-in-Scalar-clause-fits : goal.returns-in-Scalar-clause-fits
returns-in-Scalar-clause-fits g c =
    let inside = c.self.inside in
    let there : subtree_from (Some inside.registry) (map string_bytes inside.path.items) ≡ Some c.in-Some.registry.now = sym (rw c.deref.ensures.value at c.at.ensures) ∙ ap option_copied c.in-Some.is in
    rw (← c.self.view_is, there, c.in-Scalar.is) tt

pub returns-in_default-metric-clause-there : goal.returns-in_default-metric-clause-there
returns-in_default-metric-clause-there g c =
    let inside = c.self.inside in
    let there : subtree_from (Some inside.registry) (map string_bytes inside.path.items) ≡ Some c.in-Some.registry.now = sym (rw c.deref.ensures.value at c.at.ensures) ∙ ap option_copied c.in-Some.is in
    rw (← c.self.view_is) (ok_more c.test.result _ _ c.test.ensures.fits (λ fits. rw there refl))

pub returns-in_default-metric-clause-fits : goal.returns-in_default-metric-clause-fits
returns-in_default-metric-clause-fits g c =
    let inside = c.self.inside in
    let there : subtree_from (Some inside.registry) (map string_bytes inside.path.items) ≡ Some c.in-Some.registry.now = sym (rw c.deref.ensures.value at c.at.ensures) ∙ ap option_copied c.in-Some.is in
    rw (← c.self.view_is) (ok_more c.test.result _ _ c.test.ensures.fits (λ fits. rw there (rw (c.namespace.ensures.tree, c.constant_labels.ensures.tree) at fits)))
