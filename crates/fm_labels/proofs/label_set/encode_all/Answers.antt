use Rattle.std.proofs.Common.{◌<◌, sym, length, Any, arith}
use Rattle.std.proofs.lemmas.Result.{err_from_is_err_and}
use Rattle.fm_labels.proofs.LabelsLemmas.{EmitsLabels-more, EmitsLabels-ended, EmitsLabels-weaker}
use Rattle.fm_labels.proofs.label_set.encode_all.Goals as goal

pub returns-in_err-encode : goal.returns-in_err-encode
returns-in_err-encode g c =
    let T = g.T.EncodeLabel in
    let xs = c.args.labels.now in
    let within : c.loop-label.label-index < length xs = omega arith in
    let exit = err_from_is_err_and c.from_residual.result c.from_residual.ensures.1 in
    let one = EmitsLabels-weaker {G = Any T.may_fault xs} _ _ _ (λ (fault : T.may_fault c.label-item.result). (c.loop-label.label-index, c.label-item.result, within, sym c.label-item.is, fault)) c.encode.ensures.emitted in
    rw (exit.1, exit.2) (EmitsLabels-ended T.pieces xs _ c.label-item.result within c.label-item.is _ _ _ _ c.loop-label.invariant (rw c.in_err-encode.was at one))

pub loop-label-preserved : goal.loop-label-preserved
loop-label-preserved g c =
    let T = g.T.EncodeLabel in
    let xs = c.args.labels.now in
    let within : c.loop-label.label-index < length xs = omega arith in
    let one = EmitsLabels-weaker {G = Any T.may_fault xs} _ _ _ (λ (fault : T.may_fault c.label-item.result). (c.loop-label.label-index, c.label-item.result, within, sym c.label-item.is, fault)) c.encode.ensures.emitted in
    EmitsLabels-more T.pieces xs _ c.label-item.result within c.label-item.is _ _ _ _ c.loop-label.invariant (rw c.in_ok-encode.was at one)
