use Rattle.fm_reader.proofs.Tokens.{small_out}
use Rattle.fm_reader.proofs.lines.exemplar.read_small.Goals as goal

pub returns-in_default-try_from : goal.returns-in_default-try_from
returns-in_default-try_from c = small_out c.args.text.now c.in-Some.number c.in-Some.ensures c.in_default-try_from.ensures
