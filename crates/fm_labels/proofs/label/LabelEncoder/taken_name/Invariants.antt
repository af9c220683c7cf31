use Rattle.std.proofs.Common.{map, take}
use Rattle.std.specs.String.{string_bytes}
use Rattle.fm_labels.specs.inside.TakenNames.{NamesAreFree}
use Rattle.fm_labels.proofs.label.LabelEncoder.taken_name.Given as goal

abbrev pub invariant-loop-name : goal.invariant-loop-name
invariant-loop-name l = NamesAreFree l.self.metric_type l.self.labels (map string_bytes (take l.name-index l.name-items))
