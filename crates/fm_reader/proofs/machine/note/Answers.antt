use Rattle.fm_reader.proofs.SeenNames.{noted}
use Rattle.fm_reader.proofs.machine.note.Goals as goal

pub returns-clause-noted : goal.returns-clause-noted
returns-clause-noted c = noted c.args.names.now c.insert.new.self c.args.name c.in_ok-new.new c.in_ok-new.ensures.added c.in_ok-new.ensures.updates c.in_ok-new.ensures.unchanged
