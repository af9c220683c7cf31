use Rattle.std.proofs.Common.{◌+◌, if◌then◌else◌, sym, ap, ◌∙◌, arith}
use Rattle.fm_metrics.proofs.NameLemmas.{count-more}
use Rattle.fm_metrics.proofs.named_states.count_once.Goals as goal
use Rattle.fm_metrics.proofs.named_states.count_once.Goals.{then-not-is_among, else-not-is_among}

pub loop-i-preserved : goal.loop-i-preserved
loop-i-preserved c =
    let count = c.loop-i.count in
    let more = count-more c.args.names.now c.loop-i.i _ count c.is_among.result c.loop-i-test.true c.loop-i.invariant.0 c.is_among.ensures in
    elim c.if-not-is_among.branch [
      | then-not-is_among w ↦ (
        w.count-is ∙ ap (λ there. if there then count else count + 1) (sym w.if-not-is_among.true) ∙ more,
        omega (arith, w.count-is, c.loop-i.invariant.1),
      )
      | else-not-is_among w ↦ (
        w.count-is ∙ ap (λ there. if there then count else count + 1) (sym w.if-not-is_among.false) ∙ more,
        omega (arith, w.count-is, c.loop-i.invariant.1),
      )
    ]
