use Rattle.std.proofs.Common.{◌≤◌, length, map, arith, sym}
use Rattle.fm_registry_rules.specs.Listing.{own_metrics}
use Rattle.fm_core.specs.Seen.{seen_listed}
use Rattle.fm_core.specs.Lint.{warnings_of, seen_warning}
use Rattle.fm_core.proofs.CollectLemmas.{none_past}
use Rattle.fm_core.proofs.LintLemmas.{grown-next}
use Rattle.fm_core.proofs.lint.add_registry.Goals.{in-Some+in_ok-add_listed, in_default}
use Rattle.fm_core.proofs.lint.add_registry.Goals as goal

pub loop-index-preserved : goal.loop-index-preserved
loop-index-preserved g c = elim c.match-metric_at.branch [
  | in-Some+in_ok-add_listed w ↦ rw w.warnings-is
      (grown-next warnings_of (own_metrics c.args.registry.now.facts) c.loop-index.index (seen_listed w.in-Some.listed) (map seen_warning c.args.warnings.now.items) (map seen_warning c.loop-index.warnings.items) (map seen_warning w.add_listed.new.warnings.items)
      (sym w.in-Some.ensures) c.loop-index.invariant (rw w.in_ok-add_listed.was at w.add_listed.ensures))
  | in_default w ↦
      let past : length (own_metrics c.args.registry.now.facts) ≤ c.loop-index.index = none_past seen_listed (own_metrics c.args.registry.now.facts) c.loop-index.index c.metric_at.result c.metric_at.ensures w.in_default.not-Some in
      absurd (omega (arith, c.loop-index-test.true, c.metric_count-index-end.ensures, past))
]
