use Rattle.std.proofs.Common.{take, map, Ok}
use Rattle.std.specs.Prelude.{Any}
use Rattle.fm_labels.specs.LabelEncoders.{EmitsLabels}
use Rattle.fm_labels.proofs.label_set.encode_all.Given as goal

abbrev pub invariant-loop-label : goal.invariant-loop-label
invariant-loop-label g l =
    EmitsLabels (map g.T.EncodeLabel.pieces (take l.label-index l.labels)) (Any g.T.EncodeLabel.may_fault l.labels) l.initial.encoder l.encoder (Ok tt)
