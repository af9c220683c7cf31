use Rattle.std.proofs.Common.{refl}
use Rattle.fm_labels.proofs.LabelSetLemmas.{EmitsLabels-one}
use Rattle.fm_labels.proofs.label.LabelSetEncoder.encode.Goals as goal

pub returns : goal.returns
returns g c =
    rw (c.end_label.ensures.returned, ← c.self.view_is) (record { emitted = EmitsLabels-one _ _ c.self.inside.label _ _ _ c.encode-visited.ensures c.end_label.ensures.emitted c.self.invariant; returned = refl })
