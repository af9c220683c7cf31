use Rattle.fm_labels.proofs.LabelHashLemmas.{block_of}
use Rattle.fm_labels.proofs.label_values.hashing.block_of.Goals as goal

pub returns : goal.returns
returns c = rw c.copy_from_slice.ensures.after (block_of c.args.bytes.now)
