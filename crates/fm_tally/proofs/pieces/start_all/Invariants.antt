use Rattle.std.proofs.Common.{◌≡◌, ℕ, ◌<◌, ◌≤◌, get_or, length, vec_len, vec_items}
use Rattle.std.specs.Prelude.{vec_capacity}
use Rattle.fm_tally.proofs.pieces.start_all.Given as goal

abbrev pub invariant-loop-index : goal.invariant-loop-index
invariant-loop-index g l = record {
  len : vec_len l.workers ≡ l.index;
  room : length l.pieces ≤ vec_capacity l.workers;
  index_is : (k : ℕ) (d : _) → k < l.index → (get_or (vec_items l.workers) k d).promise.index ≡ k;
  empty_is : (k : ℕ) (d : _) → k < l.index → (get_or (vec_items l.workers) k d).promise.empty.now ≡ l.empty;
  gate_is : (k : ℕ) (d : _) → k < l.index → (get_or (vec_items l.workers) k d).promise.gate.now ≡ l.gate;
  piece_is : (k : ℕ) (d : _) (e : _) → k < l.index → (get_or (vec_items l.workers) k d).promise.piece.now ≡ (get_or l.pieces k e).items;
}
