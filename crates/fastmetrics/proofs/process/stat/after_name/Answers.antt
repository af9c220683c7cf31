use Rattle.fastmetrics.proofs.ProcessLemmas.{after_parenthesis}
use Rattle.fastmetrics.proofs.process.stat.after_name.Goals as goal

pub returns : goal.returns
returns c = after_parenthesis c.args.stat.now c.in_ok-after.field-0-0.now c.in_ok-after.after.now c.in_ok-after.ensures.cases
