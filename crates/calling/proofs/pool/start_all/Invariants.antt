use Rattle.std.proofs.Common.{◌≡◌, ℕ, ◌<◌, ◌≤◌, get_or, length, vec_len, vec_items}
use Rattle.std.specs.Prelude.{All, vec_capacity}
use Rattle.calling.proofs.pool.start_all.Given as goal

abbrev pub invariant-loop-index : goal.invariant-loop-index
invariant-loop-index g l = record {
  unused : All (λ s. s.amount ≡ 0) (vec_items l.shares);
  len : vec_len l.workers ≡ l.index;
  room : length l.batches ≤ vec_capacity l.workers;
  batch_is : (k : ℕ) (d : _) (e : _) → k < l.index → (get_or (vec_items l.workers) k d).promise.batch.now ≡ (get_or l.batches k e).items;
}
