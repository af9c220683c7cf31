-- Label names that fit together.
use Rattle.std.specs.Prelude.{List}
use Rattle.std.specs.List.{AllByRecursion}
use Rattle.fm_grammar.specs.declared.MetricType.{MetricType}
use Rattle.fm_grammar.specs.Exposition.{Text, Label}
use Rattle.fm_grammar.specs.Names.{AllDifferent}
use Rattle.fm_labels.specs.Labels.{NameFits}

-- labels of these names may follow the labels before them: each name fits, and they are different
pub record NamesFit (type : MetricType) (before : List Label) (names : List Text) : Type 0 where
  pub each : AllByRecursion (NameFits type before) names
  pub different : AllDifferent names
