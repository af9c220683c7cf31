use Rattle.std.proofs.Common.{not, ◌<◌, length, subst, ap, ◌∙◌, arith}
use Rattle.std.specs.List.{prefix_len}
use Rattle.std.specs.Str.{IsUtf8}
use Rattle.fm_reader.specs.inside.Cuts.{is_feed}
use Rattle.fm_reader.proofs.LineCuts.{IsLineEnd, no_feed, before_feed, after_feed, line_cut}
use Rattle.fm_reader.proofs.parts.cuts.split_line.Goals as goal

pub returns-then-end-bytes : goal.returns-then-end-bytes
returns-then-end-bytes c =
    let is : IsLineEnd c.args.text.now c.line_end-end.result = c.line_end-end.ensures.value ∙ ap (prefix_len (λ x. not (is_feed x))) c.as_bytes-bytes.ensures.value in
    no_feed c.args.text.now c.line_end-end.result is (c.if-end-bytes.true ∙ ap length c.as_bytes-bytes.ensures.value)

pub split_at-requires : goal.split_at-requires
split_at-requires c =
    let is : IsLineEnd c.args.text.now c.line_end-end.result = c.line_end-end.ensures.value ∙ ap (prefix_len (λ x. not (is_feed x))) c.as_bytes-bytes.ensures.value in
    let within : c.line_end-end.result < length c.args.text.now = omega (arith, c.line_end-end.ensures.bound, c.if-end-bytes.false, ap length c.as_bytes-bytes.ensures.value) in
    before_feed c.args.text.now c.line_end-end.result is within

pub split_at-requires-2 : goal.split_at-requires-2
split_at-requires-2 c =
    let is : IsLineEnd c.args.text.now c.line_end-end.result = c.line_end-end.ensures.value ∙ ap (prefix_len (λ x. not (is_feed x))) c.as_bytes-bytes.ensures.value in
    let within : c.line_end-end.result < length c.args.text.now = omega (arith, c.line_end-end.ensures.bound, c.if-end-bytes.false, ap length c.as_bytes-bytes.ensures.value) in
    after_feed c.args.text.now c.line_end-end.result (subst IsUtf8 c.as_bytes-bytes.ensures.value c.as_bytes-bytes.ensures.utf8) is within

pub returns : goal.returns
returns c =
    let is : IsLineEnd c.args.text.now c.line_end-end.result = c.line_end-end.ensures.value ∙ ap (prefix_len (λ x. not (is_feed x))) c.as_bytes-bytes.ensures.value in
    let within : c.line_end-end.result < length c.args.text.now = omega (arith, c.line_end-end.ensures.bound, c.if-end-bytes.false, ap length c.as_bytes-bytes.ensures.value) in
    line_cut c.args.text.now c.split_at.result.0.now c.split_at-2.result.1.now c.line_end-end.result is within c.split_at.ensures.front_len c.split_at.ensures.front c.split_at-2.ensures.back
