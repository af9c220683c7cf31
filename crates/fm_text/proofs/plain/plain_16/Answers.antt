use Rattle.std.proofs.Common.{arith}
use Rattle.fm_text.proofs.PlainLemmas.{plain_from_lanes}
use Rattle.fm_text.proofs.plain.plain_16.Goals as goal

pub returns : goal.returns
returns c = plain_from_lanes c.args.raw.now c.args.at 16 c.requires (omega arith)
