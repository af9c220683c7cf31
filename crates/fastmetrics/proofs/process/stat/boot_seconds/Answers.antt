use Rattle.std.proofs.Common.{◌≡◌, ◌++◌, Some, codes, ap, ◌∙◌, lit<}
use Rattle.std.proofs.lemmas.Option.{IfSome_then}
use Rattle.std.proofs.lemmas.Str.Pattern.{split_parts, split_text_parts}
use Rattle.fastmetrics.proofs.process.stat.boot_seconds.Goals as goal

pub returns : goal.returns
returns c =
    let name : c.args.text.now ≡ c.in_ok-rest.field-0-0.now ++ (codes "\nbtime " ++ c.in_ok-rest.rest.now) =
    split_text_parts (codes "\nbtime ") c.args.text.now (Some (c.in_ok-rest.field-0-0, c.in_ok-rest.rest)) c.in_ok-rest.ensures.cases in
    let value = split_parts 10 c.in_ok-rest.rest.now (Some (c.in_ok-digits.digits, c.in_ok-digits.field-0-1)) c.in_ok-digits.ensures.cases (lit< tt) in
    IfSome_then c.number_of.result c.number_of.ensures (λ number decimal. record {
      before = c.in_ok-rest.field-0-0.now;
      digits = c.in_ok-digits.digits.now;
      after = c.in_ok-digits.field-0-1.now;
      line = name ∙ ap (λ rest. c.in_ok-rest.field-0-0.now ++ (codes "\nbtime " ++ rest)) value.0;
      decimal = decimal;
    })
