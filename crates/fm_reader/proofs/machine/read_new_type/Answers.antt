use Rattle.fm_reader.proofs.SeenNames.{found_taken, found_new}
use Rattle.fm_reader.proofs.machine.read_new_type.Goals as goal

pub returns-then-not-branch-clause-found : goal.returns-then-not-branch-clause-found
returns-then-not-branch-clause-found c = found_taken c.args.names.now c.note.new.names c.args.line.now c.in-Some.name.now c.in-Some.metric_type c.in_ok-note.field-0 c.in-Some.ensures c.in_ok-note.ensures.noted c.if-not-branch.true

pub returns-clause-found : goal.returns-clause-found
returns-clause-found c = found_new c.args.names.now c.note.new.names c.args.line.now c.in-Some.name.now c.in-Some.metric_type c.in_ok-note.field-0 c.in-Some.ensures c.in_ok-note.ensures.noted c.if-not-branch.false
