use Rattle.std.proofs.Common.{ap, ◌∙◌, Some, None, lit<}
use Rattle.std.proofs.lemmas.Str.Pattern.{strip_prefix_char}
use Rattle.fm_reader.proofs.Digits.{fixed_plain, fixed_minus, none_not_some, some_is, some_of, plain_sum, minus_sum}
use Rattle.fm_reader.proofs.parts.number.fixed_in.Goals as goal

pub returns-in_default-magnitude_in : goal.returns-in_default-magnitude_in
returns-in_default-magnitude_in c = λ z h e.
    absurd (none_not_some (fixed_plain c.args.text.now None (strip_prefix_char 45 _ None c.in_default.ensures.cases (lit< tt)) c.in_default-magnitude_in.ensures z h e).2)

pub returns-in_default : goal.returns-in_default
returns-in_default c = λ z h e.
    let k = fixed_plain c.args.text.now (Some c.in-Some-magnitude_in.millionths) (strip_prefix_char 45 _ None c.in_default.ensures.cases (lit< tt)) c.in-Some-magnitude_in.ensures z h e in
    let sum = plain_sum c.in-Some-magnitude_in.millionths k.0 z (some_is k.2) k.1 k.3 in
    some_of _ _ _ c.checked_add_unsigned.ensures sum.0 ∙ ap Some sum.1

pub returns-in_default-magnitude_in-2 : goal.returns-in_default-magnitude_in-2
returns-in_default-magnitude_in-2 c = λ z h e.
    absurd (none_not_some (fixed_minus c.args.text.now c.in-Some.magnitude.now None (strip_prefix_char 45 _ (Some c.in-Some.magnitude) c.in-Some.ensures.cases (lit< tt)) c.in_default-magnitude_in-2.ensures z h e).2)

pub returns : goal.returns
returns c = λ z h e.
    let k = fixed_minus c.args.text.now c.in-Some.magnitude.now (Some c.in-Some-magnitude_in-2.millionths) (strip_prefix_char 45 _ (Some c.in-Some.magnitude) c.in-Some.ensures.cases (lit< tt)) c.in-Some-magnitude_in-2.ensures z h e in
    let sum = minus_sum c.in-Some-magnitude_in-2.millionths k.0 z (some_is k.2) k.1 k.3 in
    some_of _ _ _ c.checked_sub_unsigned.ensures sum.0 ∙ ap Some sum.1
