use Rattle.std.proofs.Common.{map, Ok, Any, if◌then◌else◌, [], ◌++◌, ◌⊎◌}
use Rattle.std.specs.Map.Iter.{deref_pair}
use Rattle.fm_labels.specs.LabelEncoders.{EmitsLabels}
use Rattle.fm_labels.proofs.label_set.BTreeMapEncodeLabelSet.encode.Given as goal

abbrev pub invariant-loop-label : goal.invariant-loop-label
invariant-loop-label g l =
    let V = g.V.EncodeLabelValue in let N = g.K.EncodeLabelName in
    EmitsLabels (map (λ e. if V.is_skipped e.1 then [] else N.pieces e.0 ++ V.pieces e.1) (map deref_pair l.yielded)) (Any (λ e. N.may_fault e.0 ⊎ V.may_fault e.1) l.fn.self.entries) l.initial.encoder l.encoder (Ok tt)
