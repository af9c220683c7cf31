use Rattle.std.proofs.Common.{arith}
use Rattle.fm_text.proofs.PlainLemmas.{mask_is}
use Rattle.fm_reader.proofs.parts.plain.specials.Goals as goal

pub returns : goal.returns
returns c = mask_is c.args.bytes 16 c.fits-bytes.0 (omega arith)
