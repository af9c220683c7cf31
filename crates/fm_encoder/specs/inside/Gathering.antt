-- What holds of a point encoder's fields between calls: the name of a state set, which its states' labels have, is in snake case, and
-- well formed are the common labels and the timestamp that further samples get. No common label has a name that the family's type
-- reserves for labels of its own. The samples that the sink keeps may share the common labels.
use Rattle.std.specs.Prelude.{IfSome, ◌≡◌, []}
use Rattle.std.specs.String.{string_bytes}
use Rattle.fm_grammar.specs.Names.{IsSnakeCase}
use Rattle.fm_grammar.specs.WellFormed.{AreLabels, AreMillis}
use Rattle.fm_grammar.specs.declared.MetricType.TheVariants.{StateSet}
use Rattle.fm_writer.specs.Output.{AreShared}
use Rattle.fm_labels.specs.inside.FreeLabels.{AreFree}
use Rattle.fm_encoder.specs.declared.point.PointEncoder.TheInside.{Inside}

pub record IsGathering (e : Inside) : Type 0 where
  pub name : e.labels.metric_type ≡ StateSet → IsSnakeCase (string_bytes e.name)
  pub labels : AreLabels e.labels.labels
  pub free : AreFree e.labels.metric_type e.labels.labels
  pub shared : AreShared e.labels.labels e.sink.shared
  pub time : IfSome e.time AreMillis
  pub none : e.none.labels ≡ []
