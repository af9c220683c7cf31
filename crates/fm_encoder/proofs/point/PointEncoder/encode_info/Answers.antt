use Rattle.std.proofs.Common.{◌++◌, ap}
use Rattle.fm_labels.proofs.NameLemmas.{AreLabels-joined}
use Rattle.fm_encoder.proofs.point.PointEncoder.encode_info.Goals as goal

pub push_labeled-requires-clause-labels : goal.push_labeled-requires-clause-labels
push_labeled-requires-clause-labels g c = rw (← c.self.view_is) (λ h _.
    (let common = c.self.inside.labels.labels in
    let read = rw c.text.ensures at c.in-Ok.ensures in
    AreLabels-joined _ common _ (g.LS.EncodeLabelSet.labels c.args.labels.now) h read.0 (ap (λ ls. common ++ ls) read.1)))
