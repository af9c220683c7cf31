use Rattle.std.proofs.Common.{◌≡◌, ℕ, ap, ◌∙◌, arith, Some, None, Ok, Err, lit<, ◌/◌}
use Rattle.std.proofs.lemmas.Str.Pattern.{split_parts}
use Rattle.fm_reader.specs.inside.Numbers.{places_3}
use Rattle.fm_reader.proofs.Digits.{millis_no_point, millis_seconds, err_not_ok, ok_is}
use Rattle.fm_reader.proofs.parts.number.millis_in.Goals as goal

pub returns-in_default : goal.returns-in_default
returns-in_default c = λ t h e. absurd (millis_no_point _ (split_parts 46 _ None c.in_default.ensures.cases (lit< tt)) t e)

pub returns-in_default-parse : goal.returns-in_default-parse
returns-in_default-parse c = λ t h e.
    absurd (err_not_ok (millis_seconds c.args.text.now c.in-Some.whole.now c.in-Some.decimals.now (Err c.in_default-parse.field-0) (split_parts 46 _ (Some (c.in-Some.whole, c.in-Some.decimals)) c.in-Some.ensures.cases (lit< tt)) c.in_default-parse.ensures.value.0 t h e).0)

pub returns : goal.returns
returns c = λ t h e.
    let k = millis_seconds {E = ℕ} c.args.text.now c.in-Some.whole.now c.in-Some.decimals.now (Ok c.in-Ok.seconds) (split_parts 46 _ (Some (c.in-Some.whole, c.in-Some.decimals)) c.in-Some.ensures.cases (lit< tt)) c.in-Ok.ensures.value.0 t h e in
    let seconds : c.in-Ok.seconds ≡ t / 1000 = ok_is k.0 in
    let places = k.1 in
    let bytes = c.as_bytes.ensures.value in
    let value = c.three_places.ensures.value ∙ ap places_3 bytes ∙ places in
    ap Some (omega (arith, seconds, value, c.from.ensures, c.from-2.ensures))
