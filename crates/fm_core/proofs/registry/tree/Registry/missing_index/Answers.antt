use Rattle.std.proofs.Common.{◌<◌, length, sym, ap, ◌∙◌, arith}
use Rattle.std.specs.Option.{option_copied}
use Rattle.fm_core.proofs.PathLemmas.{missing_here}
use Rattle.fm_core.proofs.registry.tree.Registry.missing_index.Goals as goal

pub returns-in-None-clause-some : goal.returns-in-None-clause-some
returns-in-None-clause-some g c =
    let within : c.loop-index.index < length c.args.path.now = omega arith in (
      c.index-path-index.result,
      within,
      c.index-path-index.is,
      missing_here c.loop-index.here.now c.args.path.now c.loop-index.index c.index-path-index.result c.as_str.result.now within c.index-path-index.is c.as_str.ensures.value
          (sym c.child.ensures ∙ ap option_copied c.in-None.is) _ c.loop-index.invariant,
    )
