-- Which namespaces and labels a root accepts, and which label it refuses.
use Rattle.std.specs.Prelude.{◌≡◌, ℕ, Bool, true, List, Option, None, Some, String, slice_get, is_none, if◌then◌else◌}
use Rattle.std.specs.declared.alloc.Global.{Global}
use Rattle.fm_grammar.specs.NameTests.{is_snake_case, is_label_name}
use Rattle.fm_grammar.specs.LabelPairs.{label_of, labels_of}
use Rattle.fm_registry_rules.specs.Texts.{Text, Labels}
use Rattle.fm_registry_rules.specs.Answer.{Refusal, InvalidLabelName, DuplicateLabel, root_labels_refusal}

-- whether a root accepts this namespace, or none
abbrev pub takes_namespace : Option Text → Bool
takes_namespace None = true
takes_namespace (Some namespace) = is_snake_case namespace

-- whether a root accepts these labels
abbrev pub takes_labels : Labels → Bool
takes_labels labels = is_none (root_labels_refusal labels)

-- why a label with this name is refused, if it is
abbrev pub label_fault : Text → Refusal
label_fault name = if is_label_name name then DuplicateLabel name else InvalidLabelName name

-- the label at this index is the first that a root refuses
pub record IsRefusedAt (labels : List (String Global × String Global)) (index : ℕ) : Type 0 where
  pub label : String Global × String Global
  pub there : slice_get labels index ≡ Some label
  pub why : root_labels_refusal (labels_of labels) ≡ Some (label_fault (label_of label).name)
