use Rattle.std.proofs.Common.{ℕ, ap, Some, Ok, Err}
use Rattle.fm_reader.proofs.Digits.{parsed_signed, whole_fits, err_not_ok, ok_is, stored}
use Rattle.fm_reader.proofs.parts.number.whole_in.Goals as goal

pub returns-in_default : goal.returns-in_default
returns-in_default c = λ z h e. absurd (err_not_ok (parsed_signed z c.args.text.now (Err c.in_default.field-0) (whole_fits z h) c.in_default.ensures.value.0 e))

pub returns : goal.returns
returns c = λ z h e. ap Some (stored c.in-Ok.number z (ok_is (parsed_signed {E = ℕ} z c.args.text.now (Ok c.in-Ok.number) (whole_fits z h) c.in-Ok.ensures.value.0 e)) (whole_fits z h))
