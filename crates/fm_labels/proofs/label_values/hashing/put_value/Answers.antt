use Rattle.std.proofs.Common.{arith}
use Rattle.fm_labels.proofs.LabelHashLemmas.{put_block}
use Rattle.fm_labels.proofs.label_values.hashing.put_value.Goals as goal

pub returns-clause-put : goal.returns-clause-put
returns-clause-put c text at is = rw c.copy_from_slice.ensures.after (put_block text c.args.value.now c.args.block.now c.args.used at (omega arith) is)
