use Rattle.fastmetrics.proofs.ProcessLemmas.{parsed}
use Rattle.fastmetrics.proofs.process.stat.number_of.Goals as goal

pub returns : goal.returns
returns c = parsed c.args.digits.now c.parse.result c.ok.result c.parse.ensures.value.0 c.ok.ensures.value
