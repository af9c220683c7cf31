use Rattle.std.proofs.Common.{◌≡◌, ◌∷◌, ◌++◌, ◌<◌, sym, ap, ◌∙◌, refl, length, Any, map, Some, append_assoc}
use Rattle.std.specs.List.{slice_get}
use Rattle.std.specs.Map.Iter.{deref}
use Rattle.std.proofs.lemmas.List.{map-append}
use Rattle.std.proofs.lemmas.Option.{get_or_from_slice_get}
use Rattle.std.proofs.lemmas.Map.Iter.{iter_turn, rest_so_far, rest_more, iter_end}
use Rattle.std.proofs.lemmas.Result.{err_from_is_err_and}
use Rattle.fm_labels.proofs.LabelsLemmas.{EmitsLabels-then, EmitsLabels-stopped, EmitsLabels-weaker}
use Rattle.fm_labels.proofs.label_set.LinkedListEncodeLabelSet.encode.Goals as goal

pub loop-label-preserved : goal.loop-label-preserved
loop-label-preserved g c =
    let T = g.T.EncodeLabel in
    let xs = c.args.self.now in
    let x = deref c.in-Some.label in
    let turn : (length c.loop-label.yielded < length xs) × (slice_get xs (length c.loop-label.yielded) ≡ Some x) = iter_turn deref xs c.loop-label.yielded c.into_iter-label-iterator.result c.loop-label.label-iterator c.next.new.self c.next.result c.into_iter-label-iterator.ensures.into_iter_gives.0 c.loop-label.yielded_by c.in-Some.label c.in-Some.is c.next.ensures.steps in
    let one = EmitsLabels-weaker {G = Any T.may_fault xs} _ _ _ (λ (fault : T.may_fault x). (length c.loop-label.yielded, x, turn.0, get_or_from_slice_get xs (length c.loop-label.yielded) x x turn.1, fault)) c.encode.ensures.emitted in
    simp map-append (EmitsLabels-then _ _ _ _ _ c.loop-label.invariant refl (rw c.in_ok-encode.was at one))

pub returns : goal.returns
returns g c =
    let e = iter_end deref c.args.self.now c.loop-label.yielded c.into_iter-label-iterator.result c.loop-label.label-iterator c.next.new.self c.next.result c.into_iter-label-iterator.ensures.into_iter_gives.0 c.loop-label.yielded_by c.in-None.is c.next.ensures.steps in
    rw e.0 at c.loop-label.invariant

pub returns-in_err-encode : goal.returns-in_err-encode
returns-in_err-encode g c =
    let T = g.T.EncodeLabel in
    let xs = c.args.self.now in
    let x = deref c.in-Some.label in
    let turn : (length c.loop-label.yielded < length xs) × (slice_get xs (length c.loop-label.yielded) ≡ Some x) = iter_turn deref xs c.loop-label.yielded c.into_iter-label-iterator.result c.loop-label.label-iterator c.next.new.self c.next.result c.into_iter-label-iterator.ensures.into_iter_gives.0 c.loop-label.yielded_by c.in-Some.label c.in-Some.is c.next.ensures.steps in
    let one = EmitsLabels-weaker {G = Any T.may_fault xs} _ _ _ (λ (fault : T.may_fault x). (length c.loop-label.yielded, x, turn.0, get_or_from_slice_get xs (length c.loop-label.yielded) x x turn.1, fault)) c.encode.ensures.emitted in
    let exit = err_from_is_err_and c.from_residual.result c.from_residual.ensures.1 in
    let left = rest_more deref c.loop-label.label-iterator c.next.new.self c.next.result c.in-Some.label c.in-Some.is c.next.ensures.steps in
    let all : xs ≡ map deref c.loop-label.yielded ++ (x ∷ c.next.new.self) =
    sym c.into_iter-label-iterator.ensures.into_iter_gives.0 ∙ rest_so_far deref c.loop-label.yielded c.into_iter-label-iterator.result c.loop-label.label-iterator c.loop-label.yielded_by ∙ ap (λ (t : _). map deref c.loop-label.yielded ++ t) left in
    let whole : map T.pieces xs ≡ map T.pieces (map deref c.loop-label.yielded) ++ (T.pieces x ∷ map T.pieces c.next.new.self) = ap (map T.pieces) all ∙ map-append T.pieces _ _ in
    let done = EmitsLabels-then _ _ _ _ _ c.loop-label.invariant refl (rw c.in_err-encode.was at one) in
    rw (whole, exit.1, exit.2) (rw append_assoc at (EmitsLabels-stopped (map T.pieces c.next.new.self) _ _ _ done))
