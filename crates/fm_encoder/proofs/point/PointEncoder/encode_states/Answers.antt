use Rattle.std.proofs.Common.{◌≡◌, [], Err, ap, length, map, refl, rules}
use Rattle.std.proofs.lemmas.List.{nil_from_length}
use Rattle.fm_encoder.specs.States.{state_of}
use Rattle.fm_labels.proofs.Cases.{none_from_answer}
use Rattle.fm_encoder.proofs.StateLemmas.{some_from_answer, none_before, EmitsPoints-states, EmitsPoints-no_states}
use Rattle.fm_encoder.proofs.point.PointEncoder.encode_states.Goals as goal

pub returns-in_err-test_states : goal.returns-in_err-test_states
returns-in_err-test_states c =
    let error = c.in_err-test_states.field-0.0 in
    let some : ¬ (c.args.states.now ≡ []) = search rules in
    let is : c.from_residual-in_err-test_states.result ≡ Err error = search rules in
    let begun = none_from_answer _ c.begin_point.ensures.returned c.in_ok-begin_point.was in
    let refused = some_from_answer error _ c.test_states.ensures.returned c.in_err-test_states.was in
    let emitted = EmitsPoints-no_states (map state_of c.args.states.now) c.is_empty.result _ _ _ c.begin_point.ensures.emitted begun c.test_states.ensures.emitted error (λ _ none. some (none_before state_of _ none)) refused in
    rw is (record { emitted = emitted; returned = rw refused refl })

pub returns : goal.returns
returns c =
    let begun = none_from_answer _ c.begin_point.ensures.returned c.in_ok-begin_point.was in
    let tested = none_from_answer _ c.test_states.ensures.returned c.in_ok-test_states.was in
    let pushed = rw (c.take_own-own.ensures) at c.push_states-pushed.ensures.emitted in
    rw (c.keep_own.ensures, c.push_states-pushed.ensures.returned) (record { emitted = EmitsPoints-states (map state_of c.args.states.now) c.is_empty.result _ _ _ c.begin_point.ensures.emitted begun c.test_states.ensures.emitted _ (λ empty. (let none : length c.args.states.now ≡ 0 = search rules in ap (map state_of) (nil_from_length _ none))) tested pushed; returned = refl })
