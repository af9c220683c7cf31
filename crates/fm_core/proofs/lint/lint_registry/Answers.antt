use Rattle.std.proofs.Common.{◌<◌, length, map, arith}
use Rattle.fm_core.specs.Lint.{warnings_of, seen_warning}
use Rattle.fm_core.proofs.LintLemmas.{grown-registry}
use Rattle.fm_core.proofs.lint.lint_registry.Goals as goal

pub loop-registry-preserved : goal.loop-registry-preserved
loop-registry-preserved g c =
    let within : c.loop-registry.registry-index < length c.deref-registry-items.result.now = omega arith in
    grown-registry warnings_of c.deref-registry-items.result.now c.loop-registry.registry-index c.registry-item.result (map seen_warning c.loop-registry.warnings.items) (map seen_warning c.add_registry.new.warnings.items)
    within c.registry-item.is c.loop-registry.invariant (rw c.in_ok-add_registry.was at c.add_registry.ensures)
