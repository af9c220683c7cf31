-- Labels that the samples of a point share.
use Rattle.std.specs.Prelude.{◌≡◌, ◌≢◌, List, [], ◌∷◌, ◌++◌, map, Option, Some, None}
use Rattle.std.specs.Borrow.{Bor}
use Rattle.std.specs.List.{AllByRecursion}
use Rattle.fm_grammar.specs.Exposition.{Text, Label}
use Rattle.fm_grammar.specs.Names.{IsLabelName}
use Rattle.fm_grammar.specs.Spelling.{label_text, label_list_text}
use Rattle.fm_grammar.specs.WellFormed.{AreLabels}
use Rattle.fm_reader.specs.inside.Fronts.{AreNamed}
use Rattle.fm_reader.specs.declared.lines.shared.ReadLabels.{ReadLabels}

-- the common labels of a sample, where those of the sample before are given
abbrev pub common_after : List Label → Option (List Label) → List Label
common_after before None = before
common_after before (Some common) = common

-- all labels of a sample, where the common labels of the sample before are given
abbrev pub all_labels : List Label → ReadLabels → List Label
all_labels before labels = common_after before labels.common ++ labels.own

abbrev pub shared_front : List Label → Option (ReadLabels × Bor Text) → Option (List Label × Text)
shared_front before None = None
shared_front before (Some (labels, rest)) = Some (all_labels before labels, rest.now)

-- one label, whose name none of the common ones has, is at the front of the text before a closing brace and a space
abbrev pub IsOwnLabel : List Label → Text → List Label → Text → Type 0
IsOwnLabel common text own rest =
    (label : Label) × (own ≡ label ∷ []) × IsLabelName label.name
    × AllByRecursion (λ other. other ≢ label.name) (map (λ other. other.name) common)
    × (text ≡ label_text label ++ (125 ∷ 32 ∷ rest))

-- some labels with valid names are at the front of the text before a comma
abbrev pub IsNamedFront : Text → List Label → Text → Type 0
IsNamedFront text labels more = (labels ≢ []) × AreNamed labels × (text ≡ label_list_text labels ++ (44 ∷ more))

-- the same with different names
abbrev pub IsCommonFront : Text → List Label → Text → Type 0
IsCommonFront text labels more = (labels ≢ []) × AreLabels labels × (text ≡ label_list_text labels ++ (44 ∷ more))
