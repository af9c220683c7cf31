use Rattle.std.proofs.Common.{◌≡◌, None, refl, arith}
use Rattle.std.proofs.lemmas.List.{length_push}
use Rattle.fm_histogram.proofs.SlotLemmas.{push_at}
use Rattle.fm_histogram.proofs.exemplars.Seen.of_none.Goals as goal

pub loop-index-preserved : goal.loop-index-preserved
loop-index-preserved c =
    rw c.in_ok-push.ensures.items (simp length_push (let before = c.loop-index.invariant.0 in omega arith), push_at (λ _ slot. slot ≡ None) _ None refl c.loop-index.invariant.1)
