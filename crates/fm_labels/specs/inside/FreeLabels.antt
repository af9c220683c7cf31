-- Labels with and without the name that a type reserves.
use Rattle.std.specs.Prelude.{List, Contains}
use Rattle.std.specs.List.{AllByRecursion, Any}
use Rattle.fm_grammar.specs.declared.MetricType.{MetricType}
use Rattle.fm_grammar.specs.Exposition.{Text, Label}
use Rattle.fm_grammar.specs.Kinds.{all_types}
use Rattle.fm_labels.specs.Labels.{IsReserved, label_names}

-- no label has a name that the type reserves for labels of its own
abbrev pub AreFree : MetricType → List Label → Type 0
AreFree type labels = AllByRecursion (λ label. ¬ (IsReserved type label.name)) labels

-- one of the labels has the name that the type reserves for labels of its own
abbrev pub HasReserved : MetricType → List Label → Type 0
HasReserved type labels = (name : Text) × IsReserved type name × Contains (label_names labels) name

-- one of the labels has a name that some type reserves
abbrev pub HasAnyReserved : List Label → Type 0
HasAnyReserved labels = Any (λ type. HasReserved type labels) all_types
