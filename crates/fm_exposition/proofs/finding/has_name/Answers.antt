use Rattle.fm_exposition.proofs.FindLemmas.{same_after, begins_with}
use Rattle.fm_exposition.proofs.finding.has_name.Goals as goal

pub returns-in-Some : goal.returns-in-Some
returns-in-Some c =
    rw (begins_with c.args.family.now c.args.name.now c.in-Some.suffix c.in-Some.ensures.cases, same_after, ← c.suffix.ensures) c.eq.ensures
