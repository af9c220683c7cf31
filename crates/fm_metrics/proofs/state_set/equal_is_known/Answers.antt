use Rattle.fm_metrics.proofs.StateLemmas.{known_equal}
use Rattle.fm_metrics.proofs.state_set.equal_is_known.Goals as goal

pub returns : goal.returns
returns g c = λ all same known. known_equal g.T.PartialEq.eq g.met.T.PartialEq.laws all _ _ same known
