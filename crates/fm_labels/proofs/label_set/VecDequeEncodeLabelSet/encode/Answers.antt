use Rattle.std.proofs.Common.{◌≡◌, ◌++◌, map, Any, sym, ap, ◌∙◌}
use Rattle.std.proofs.lemmas.List.{map-append}
use Rattle.std.proofs.lemmas.Result.{err_from_is_err_and}
use Rattle.fm_labels.proofs.LabelsLemmas.{EmitsLabels-then, EmitsLabels-stopped, EmitsLabels-weaker, Any-left, Any-right}
use Rattle.fm_labels.proofs.label_set.VecDequeEncodeLabelSet.encode.Goals as goal

pub returns-in_err-encode_all : goal.returns-in_err-encode_all
returns-in_err-encode_all g c =
    let T = g.T.EncodeLabel in
    let front = c.as_slices.result.0.now in
    let back = c.as_slices.result.1.now in
    let whole : map T.pieces c.args.self.now.items ≡ map T.pieces front ++ map T.pieces back = ap (map T.pieces) (sym c.as_slices.ensures.items) ∙ map-append T.pieces front back in
    let exit = err_from_is_err_and c.from_residual.result c.from_residual.ensures.1 in
    let first = EmitsLabels-weaker {G = Any T.may_fault (front ++ back)} _ _ _ (Any-left T.may_fault front back) c.encode_all.ensures in
    rw (whole, ← c.as_slices.ensures.items, exit.1, exit.2) (EmitsLabels-stopped (map T.pieces back) _ _ _ (rw c.in_err-encode_all.was at first))

pub returns : goal.returns
returns g c =
    let T = g.T.EncodeLabel in
    let front = c.as_slices.result.0.now in
    let back = c.as_slices.result.1.now in
    let whole : map T.pieces c.args.self.now.items ≡ map T.pieces front ++ map T.pieces back = ap (map T.pieces) (sym c.as_slices.ensures.items) ∙ map-append T.pieces front back in
    let first = EmitsLabels-weaker {G = Any T.may_fault (front ++ back)} _ _ _ (Any-left T.may_fault front back) c.encode_all.ensures in
    let second = EmitsLabels-weaker {G = Any T.may_fault (front ++ back)} _ _ _ (Any-right T.may_fault front back) c.encode_all-2.ensures in
    rw (whole, ← c.as_slices.ensures.items) (EmitsLabels-then _ _ _ _ _ first c.in_ok-encode_all.was second)
