use Rattle.std.proofs.Common.{◌≡◌, ℕ, ap, ◌∙◌, arith, Some, None, Ok, Err, lit<, ◌/◌, ◌%◌, ◌+◌}
use Rattle.std.proofs.lemmas.Str.Pattern.{split_parts}
use Rattle.fm_reader.specs.inside.Numbers.{places_6}
use Rattle.fm_reader.proofs.Digits.{millionths_no_point, millionths_whole, err_not_ok, ok_is, some_of}
use Rattle.fm_reader.proofs.parts.number.magnitude_in.Goals as goal

pub returns-in_default : goal.returns-in_default
returns-in_default c = λ n h e. absurd (millionths_no_point _ (split_parts 46 _ None c.in_default.ensures.cases (lit< tt)) n e)

pub returns-in_default-parse : goal.returns-in_default-parse
returns-in_default-parse c = λ n h e.
    absurd (err_not_ok (millionths_whole c.args.text.now c.in-Some.whole.now c.in-Some.decimals.now (Err c.in_default-parse.field-0) (split_parts 46 _ (Some (c.in-Some.whole, c.in-Some.decimals)) c.in-Some.ensures.cases (lit< tt)) c.in_default-parse.ensures.value.0 n h e).0)

pub returns-in_default-checked_mul : goal.returns-in_default-checked_mul
returns-in_default-checked_mul c = λ n h e.
    let k = millionths_whole {E = ℕ} c.args.text.now c.in-Some.whole.now c.in-Some.decimals.now (Ok c.in-Ok.whole) (split_parts 46 _ (Some (c.in-Some.whole, c.in-Some.decimals)) c.in-Some.ensures.cases (lit< tt)) c.in-Ok.ensures.value.0 n h e in
    let whole : c.in-Ok.whole ≡ n / 1000000 = ok_is k.0 in
    absurd (c.in_default-checked_mul.ensures (omega (arith, whole, h)))

pub returns : goal.returns
returns c = λ n h e.
    let k = millionths_whole {E = ℕ} c.args.text.now c.in-Some.whole.now c.in-Some.decimals.now (Ok c.in-Ok.whole) (split_parts 46 _ (Some (c.in-Some.whole, c.in-Some.decimals)) c.in-Some.ensures.cases (lit< tt)) c.in-Ok.ensures.value.0 n h e in
    let whole : c.in-Ok.whole ≡ n / 1000000 = ok_is k.0 in
    let value : c.six_places.result ≡ n % 1000000 = c.six_places.ensures.value ∙ ap places_6 c.as_bytes.ensures.value ∙ k.1 in
    let scaled = c.in-Some-checked_mul.ensures.1 in
    let sum : c.in-Some-checked_mul.scaled + c.from.result ≡ n = omega (arith, whole, value, scaled, c.from.ensures) in
    some_of _ _ _ c.checked_add.ensures (omega (arith, sum, h)) ∙ ap Some sum
