-- The law is a lemma about texts.
use Rattle.fm_grammar.proofs.Law.{one_reading}
use Rattle.fm_laws.proofs.unique_readability.Goals as goal

pub returns : goal.returns
returns c = one_reading
