use Rattle.std.proofs.Common.{◌≡◌, get_or, ⊎_elim, sym, ◌∙◌, arith, rules}
use Rattle.fm_reader.proofs.Digits.{unsigned_text}
use Rattle.fm_reader.proofs.parts.number.unsigned_in.Goals as goal

pub returns : goal.returns
returns c =
    let first : get_or c.args.text.now 0 0 ≡ c.in-Some.first.now = search rules in
    unsigned_text c.args.text.now c.in-Ok.number c.in-Ok.ensures.value.0 (omega (arith, first, c.if-first-lt48.false))
    (λ zero. ⊎_elim (λ both. both.1) (λ other. absurd (other (sym first ∙ zero))) c.if-text-gt1.either)
