use Rattle.std.proofs.Common.{refl}
use Rattle.fm_histogram.proofs.SlotLemmas.{fit_alone}
use Rattle.fm_histogram.proofs.exemplars.Seen.observe.Goals as goal

pub invariant_of-self : goal.invariant_of-self
invariant_of-self c =
    let counts = c.observe-counted.ensures in let inside = c.self.inside in
    fit_alone c.args.value (record { counted = inside.snapshot; last = inside.last.items }) _ c.observe-counted.result c.self.invariant c.counts_taken.ensures
    (record { observes = record { counted = counts.counted; full = counts.full; only_full = counts.only_full; kept = counts.kept }; same = refl })

pub returns-clause-observes : goal.returns-clause-observes
returns-clause-observes c =
    let counts = c.observe-counted.ensures in
    rw (← c.self.view_is) (record { observes = record { counted = counts.counted; full = counts.full; only_full = counts.only_full; kept = counts.kept }; same = refl })
