use Rattle.fm_reader.proofs.HelpLines.{empty_text}
use Rattle.fm_reader.proofs.SharedLabels.{no_common}
use Rattle.fm_reader.proofs.lines.shared.without_common.Goals as goal

pub returns-then-is_empty : goal.returns-then-is_empty
returns-then-is_empty c = no_common c.common_text.result.now c.args.before.now.common c.args.labels c.common_text.ensures (empty_text _ c.if-is_empty.ensures)
