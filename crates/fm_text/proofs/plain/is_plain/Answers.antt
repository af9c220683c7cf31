use Rattle.fm_text.proofs.PlainLemmas.{escaped_plain}
use Rattle.fm_text.proofs.plain.is_plain.Goals as goal

pub returns-then-raw-le32 : goal.returns-then-raw-le32
returns-then-raw-le32 c = escaped_plain c.plain_short.result c.args.raw.now c.plain_short.ensures

pub returns-else-raw-le32 : goal.returns-else-raw-le32
returns-else-raw-le32 c = escaped_plain c.plain_long.result c.args.raw.now c.plain_long.ensures
