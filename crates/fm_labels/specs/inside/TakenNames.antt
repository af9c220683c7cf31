-- Whether labels with names that were tested before may follow others.
use Rattle.std.specs.Prelude.{List, Contains}
use Rattle.std.specs.List.{AllByRecursion}
use Rattle.fm_grammar.specs.declared.MetricType.{MetricType}
use Rattle.fm_grammar.specs.Exposition.{Text, Label}
use Rattle.fm_raw.specs.declared.encode_error.EncodeError.{EncodeError}
use Rattle.fm_labels.specs.Labels.{IsReserved, label_names, NameFault}

-- each of the names may follow the labels before, and the other names, in a family of this type
pub record NamesAreFree (type : MetricType) (before : List Label) (names : List Text) : Type 0 where
  pub free : AllByRecursion (λ name. ¬ (IsReserved type name)) names
  pub fresh : AllByRecursion (λ name. ¬ (Contains (label_names before) name)) names

-- one of the names may not
abbrev pub IsTakenName : EncodeError → MetricType → List Label → List Text → Type 0
IsTakenName k type before names = (name : Text) × Contains names name × NameFault k type before name
