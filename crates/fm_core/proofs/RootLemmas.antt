-- A root of what a builder holds.
use Rattle.std.proofs.Common.{◌≡◌, true, Option, None, Some, IfSome, IsTrue, refl, sym, true≢false}
use Rattle.std.specs.Prelude.{is_none}
use Rattle.fm_grammar.specs.Names.{IsSnakeCase}
use Rattle.fm_raw.proofs.NameLemmas.{snake_case_is}
use Rattle.fm_registry_rules.specs.Texts.{Text, Labels}
use Rattle.fm_registry_rules.specs.Answer.{Refusal, root_labels_refusal}
use Rattle.fm_registry_rules.specs.inside.RootLabels.{takes_namespace, takes_labels}
use Rattle.fm_registry_rules.proofs.RootLemmas.{root_labels_valid}
use Rattle.fm_core.specs.HasHistory.{IsNewRoot, root_tree}
use Rattle.fm_core.proofs.SoundLemmas.{new_root}

-- what a builder holds makes a root
pub built_root : {M : Type 0} (namespace : Option Text) (labels : Labels) → IsTrue (takes_namespace namespace) → IsTrue (takes_labels labels) → IsNewRoot {M = M} namespace labels (root_tree namespace labels)
built_root namespace labels valid passed = new_root namespace labels (by namespace valid) (root_labels_valid labels (none (root_labels_refusal labels) passed))
  where
    by : (o : Option Text) → IsTrue (takes_namespace o) → IfSome o IsSnakeCase
    by None h = tt
    by (Some n) h = snake_case_is n h

    none : (o : Option Refusal) → is_none o ≡ true → o ≡ None
    none None h = refl
    none (Some r) h = absurd (true≢false (sym h))
