use Rattle.std.proofs.Common.{sym, true≢false}
use Rattle.fm_labels.proofs.WrittenLemmas.{keeps}
use Rattle.fm_labels.proofs.collecting.written.WrittenLabels.read.Goals as goal

pub returns-else-has_any_reserved-clause-read : goal.returns-else-has_any_reserved-clause-read
returns-else-has_any_reserved-clause-read g c =
    keeps (g.LS.EncodeLabelSet.labels c.args.labels.now) c.in-Ok.labels.labels c.in-Ok.ensures.0 c.in-Ok.ensures.1 (λ there. true≢false (sym (c.if-has_any_reserved.ensures.1 there)))
