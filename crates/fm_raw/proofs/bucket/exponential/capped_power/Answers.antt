use Rattle.fm_raw.proofs.ExponentialLemmas.{large}
use Rattle.fm_raw.proofs.bucket.exponential.capped_power.Goals as goal

pub returns-then-exponent-ge64 : goal.returns-then-exponent-ge64
returns-then-exponent-ge64 c = large c.args.base c.args.exponent c.requires c.if-exponent-ge64.true
