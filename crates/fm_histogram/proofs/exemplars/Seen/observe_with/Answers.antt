use Rattle.std.proofs.Common.{◌≡◌, true, Some, Ok, refl, ap, arith}
use Rattle.std.specs.Prelude.{slice_set}
use Rattle.fm_histogram.specs.Histogram.{is_taken}
use Rattle.fm_histogram.specs.Exemplars.{ObservesWith}
use Rattle.fm_histogram.proofs.SlotLemmas.{fit_with, index_inside, not_below}
use Rattle.fm_histogram.proofs.exemplars.Seen.observe_with.Goals as goal

pub index_mut-requires : goal.index_mut-requires
index_mut-requires c =
    let inside = c.self.inside in let slots = c.self.invariant.slots in
    let within = index_inside is_taken inside.snapshot c.args.exemplar.value c.self.invariant.counts in
    omega (arith, c.index_of-index.ensures)

-- what was done to the parts
done : (c : goal.Joined-index_mut) → ObservesWith c.args.exemplar (record { counted = c.self.inside.snapshot; last = c.self.inside.last.items })
    (record { counted = c.observe-counted.new.self; last = slice_set c.self.inside.last.items c.index_of-index.result (Some c.args.exemplar) }) (Ok tt)
done c =
    let counts = c.in_ok-counted.ensures in
    let taken : is_taken c.args.exemplar.value ≡ true = not_below c.args.exemplar.value c.if-lt.ensures in
    record {
      observes = record { counted = counts.counted; full = counts.full; only_full = counts.only_full; kept = counts.kept };
      last = rw taken (ap (λ i. slice_set c.self.inside.last.items i (Some c.args.exemplar)) c.index_of-index.ensures);
    }

pub invariant_of-self-2 : goal.invariant_of-self-2
invariant_of-self-2 c = fit_with c.args.exemplar _ _ (Ok tt) c.self.invariant c.counts_taken.ensures (done c)

pub returns-clause-observes : goal.returns-clause-observes
returns-clause-observes c = rw (← c.self.view_is) (done c)
