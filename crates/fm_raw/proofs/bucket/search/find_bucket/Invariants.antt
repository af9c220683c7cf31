use Rattle.std.specs.Prelude.{◌≡◌, ◌+◌, ◌^◌, ◌≤◌, ◌<◌, min}
use Rattle.std.specs.Int.Count.{count_leading_zeros}
use Rattle.fm_raw.proofs.bucket.search.find_bucket.Given as goal

abbrev pub invariant-loop-left : goal.invariant-loop-left
invariant-loop-left g l = record {
  inside : l.low ≤ l.n;
  reached : l.low ≤ g.P.Probe.first l.probe;
  near : min l.n (g.P.Probe.first l.probe) < l.low + 2 ^ l.left;
  same : g.P.Probe.first l.probe ≡ g.P.Probe.first l.fn.probe;
  levels : l.left + count_leading_zeros 64 l.n ≤ 64;
  before : g.P.Probe.asked l.fn.probe ≤ g.P.Probe.asked l.probe;
  counted : g.P.Probe.asked l.probe + l.left + count_leading_zeros 64 l.n ≤ g.P.Probe.asked l.fn.probe + 64;
}

abbrev pub decreases-loop-left : goal.decreases-loop-left
decreases-loop-left g l = l.left
