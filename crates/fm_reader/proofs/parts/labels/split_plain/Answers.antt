use Rattle.std.proofs.Common.{Some, length, lit<, refl, ap, ◌∙◌, ◌++◌, arith}
use Rattle.std.proofs.lemmas.Str.Pattern.{strip_prefix_char}
use Rattle.std.specs.List.{prefix_len}
use Rattle.fm_grammar.specs.Exposition.{Text}
use Rattle.fm_grammar.specs.Spelling.{escaped}
use Rattle.fm_reader.specs.inside.Plain.{is_plain}
use Rattle.fm_reader.proofs.PlainRuns.{run_boundary, begun}
use Rattle.fm_reader.proofs.parts.labels.split_plain.Goals as goal

pub split_at-requires : goal.split_at-requires
split_at-requires c =
    run_boundary c.args.text.now c.plain_end.result (c.plain_end.ensures.value ∙ ap (prefix_len is_plain) c.as_bytes.ensures.value) (omega (arith, c.plain_end.ensures.bound, ap length c.as_bytes.ensures.value))

pub returns : goal.returns
returns c =
    begun c.args.text.now c.split_at.result.0.now c.split_at.result.1.now c.split_at.result.0.now c.plain_end.result (c.plain_end.ensures.value ∙ ap (prefix_len is_plain) c.as_bytes.ensures.value) c.split_at.ensures.front c.split_at.ensures.back refl
    ∙ ap (λ (t : Text). escaped c.split_at.result.0.now ++ t) (strip_prefix_char 34 _ (Some c.in-Some.rest) c.in-Some.ensures.cases (lit< tt))
