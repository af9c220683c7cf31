-- The names of the labels of a family, and which are refused.
use Rattle.std.specs.Prelude.{◌≡◌, List, [], map, Option, Some, ◌⊎◌}
use Rattle.std.specs.List.{AllByRecursion}
use Rattle.std.specs.Borrow.{Bor}
use Rattle.fm_grammar.specs.Names.{IsLabelName, AllDifferent}
use Rattle.fm_grammar.specs.Exposition.{Label}
use Rattle.fm_registry_rules.specs.Texts.{Text}
use Rattle.fm_registry_rules.specs.Answer.{Refusal, Memory, root_labels_refusal}

-- the texts that are borrowed
abbrev pub shown_texts : List (Bor Text) → List Text
shown_texts = map (λ text. text.now)

-- each is a label name, and no two are equal
pub record AreLabelNames (names : List Text) : Type 0 where
  pub valid : AllByRecursion IsLabelName names
  pub different : AllDifferent names

-- labels with these names, and no values
abbrev pub bare : List Text → List Label
bare = map (λ n. record { name = n; value = [] })

-- why these names are refused: as the labels of a root with these names are
abbrev pub names_refusal : List Text → Option Refusal
names_refusal names = root_labels_refusal (bare names)

-- the wanted refusal, or there was no memory
abbrev pub IsOrMemory : Option Refusal → Option Refusal → Type 0
IsOrMemory got wanted = (got ≡ Some Memory) ⊎ (got ≡ wanted)
