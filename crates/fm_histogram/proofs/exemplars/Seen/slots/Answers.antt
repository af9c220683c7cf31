use Rattle.std.proofs.Common.{arith}
use Rattle.std.proofs.lemmas.List.{length_push}
use Rattle.fm_histogram.proofs.SlotLemmas.{slots_more, valid_more}
use Rattle.fm_histogram.proofs.exemplars.Seen.slots.Goals as goal

pub loop-i-preserved : goal.loop-i-preserved
loop-i-preserved c =
    let so = c.loop-i.invariant in let slot = c.slot.result in
    rw c.in_ok-push.ensures.items (simp length_push (let before = so.0 in omega arith), valid_more _ slot so.1 c.slot.ensures.valid, slots_more _ _ slot c.loop-i.i so.0 so.2 c.slot.ensures.fits)
