use Rattle.std.proofs.Common.{arith}
use Rattle.fm_reader.proofs.LineCuts.{feed_mask}
use Rattle.fm_reader.proofs.parts.cuts.feeds.Goals as goal

pub returns : goal.returns
returns c = feed_mask c.args.bytes 16 c.fits-bytes.0 (omega arith)
