use Rattle.std.proofs.Common.{map, Ok, Any}
use Rattle.std.specs.Map.Iter.{deref}
use Rattle.fm_labels.specs.LabelEncoders.{EmitsLabels}
use Rattle.fm_labels.proofs.label_set.LinkedListEncodeLabelSet.encode.Given as goal

abbrev pub invariant-loop-label : goal.invariant-loop-label
invariant-loop-label g l =
    EmitsLabels (map g.T.EncodeLabel.pieces (map deref l.yielded)) (Any g.T.EncodeLabel.may_fault l.fn.self) l.initial.encoder l.encoder (Ok tt)
