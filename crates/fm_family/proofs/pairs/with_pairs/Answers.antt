use Rattle.fm_family.proofs.PairLabels.{all_pairs_equal}
use Rattle.fm_family.proofs.pairs.with_pairs.Goals as goal

pub with_or_new-requires-clause-clones : goal.with_or_new-requires-clause-clones
with_or_new-requires-clause-clones g c = λ xs ys h. all_pairs_equal _ _ _ _ c.requires.names c.requires.values xs ys h.whole
