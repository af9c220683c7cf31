use Rattle.fm_labels.proofs.OwnLabels.{next_label, last_label}
use Rattle.expose_io.proofs.tree.RequestEncodeLabelSet.encode.Goals as goal

pub returns : goal.returns
returns c = next_label _ _ _ _ _ c.encode.ensures.emitted c.in_ok-encode.was (last_label _ _ _ c.encode-2.ensures.emitted)
