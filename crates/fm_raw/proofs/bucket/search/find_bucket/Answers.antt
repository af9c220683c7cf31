use Rattle.std.proofs.Common.{◌≡◌, ℕ, ◌+◌, ◌-◌, ◌*◌, ◌^◌, ◌<◌, ◌≤◌, arith, rules}
use Rattle.std.specs.Int.Count.{count_leading_zeros}
use Rattle.std.proofs.lemmas.Nat.{leading_length, leading_le}
use Rattle.std.proofs.Math.Pow.{pow_mono}
use Rattle.fm_raw.proofs.bucket.search.find_bucket.Goals as goal

-- a number has as many binary digits as are not leading zeros
digits : (n : ℕ) → n < 2 ^ 64 → (n < 2 ^ (64 - count_leading_zeros 64 n)) × (2 ^ (64 - count_leading_zeros 64 n) ≤ 2 * n + 1)
digits n fits =
    let s = leading_length 64 n fits in
    let e : 64 - count_leading_zeros 64 n ≡ s.0 = omega (arith, s.1) in
    rw (e) (s.2, s.3)

pub loop-left-init : goal.loop-left-init
loop-left-init g c =
    let zeros = leading_le 64 c.args.n in
    let below = (digits c.args.n c.ranges.n.fits).0 in
    record {
      inside = search rules;
      reached = search rules;
      near = omega (arith, below);
      same = search rules;
      levels = omega (arith, zeros);
      before = search rules;
      counted = omega (arith, zeros);
    }

pub returns-clause-cost : goal.returns-clause-cost
returns-clause-cost g c =
    let was = c.loop-left.invariant in
    let most = (digits c.args.n c.ranges.n.fits).1 in
    let asked : g.P.Probe.asked c.loop-left.probe - g.P.Probe.asked c.args.probe.now ≤ 64 - count_leading_zeros 64 c.args.n = omega (arith, was.counted, was.before) in
    let power = pow_mono asked in
    omega (arith, power, most)
