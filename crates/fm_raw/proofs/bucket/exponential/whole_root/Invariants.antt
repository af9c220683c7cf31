use Rattle.std.specs.Prelude.{◌≡◌, ℕ, ◌+◌, ◌-◌, ◌^◌, ◌<◌, ◌≤◌}
use Rattle.fm_raw.proofs.bucket.exponential.whole_root.Given as goal

abbrev pub invariant-loop-low : goal.invariant-loop-low
invariant-loop-low l = record {
  two : 2 ≤ l.low;
  inside : l.high ≤ l.power + 1;
  between : (root : ℕ) → root ^ l.exponent ≡ l.power → (l.low ≤ root) × (root < l.high);
}

abbrev pub decreases-loop-low : goal.decreases-loop-low
decreases-loop-low l = l.high - l.low
