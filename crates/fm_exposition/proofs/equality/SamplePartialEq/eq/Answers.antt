use Rattle.fm_exposition.specs.inside.SameLaws.{same_sample_decides}
use Rattle.fm_exposition.proofs.SameLemmas.{exactly}
use Rattle.fm_exposition.proofs.equality.SamplePartialEq.eq.Goals as goal

pub returns-clause-exact : goal.returns-clause-exact
returns-clause-exact c = exactly _ _ c.is_same_sample.ensures (same_sample_decides _ _)
