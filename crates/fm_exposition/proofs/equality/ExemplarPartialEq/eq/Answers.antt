use Rattle.fm_exposition.specs.inside.SameLaws.{same_exemplar_decides}
use Rattle.fm_exposition.proofs.SameLemmas.{exactly}
use Rattle.fm_exposition.proofs.equality.ExemplarPartialEq.eq.Goals as goal

pub returns-clause-exact : goal.returns-clause-exact
returns-clause-exact c = exactly _ _ c.is_same_exemplar.ensures (same_exemplar_decides _ _)
