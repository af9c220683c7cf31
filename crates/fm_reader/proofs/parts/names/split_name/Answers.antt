use Rattle.std.proofs.Common.{◌<◌, inl, inr, length, get_or, subst, sym, ap, ◌∙◌, arith}
use Rattle.std.specs.List.{prefix_len}
use Rattle.std.specs.Str.{IsUtf8}
use Rattle.fm_grammar.specs.NameTests.{is_label_byte}
use Rattle.fm_reader.proofs.LabelRuns.{IsNameEnd, no_equals_after, nothing_after, bad_start, after_name, name_cut}
use Rattle.fm_reader.proofs.parts.names.split_name.Goals as goal
use Rattle.fm_reader.proofs.parts.names.split_name.Goals.{then-end-bytes-via-then-end-bytes, then-end-bytes-via-else-end-bytes+then-bytes-end-ne61, then-end-eq0-via-then-end-eq0, then-end-eq0-via-else-end-eq0+then-bytes-le57}

pub returns-then-end-bytes : goal.returns-then-end-bytes
returns-then-end-bytes c =
    let same = c.as_bytes-bytes.ensures.value in
    let is : IsNameEnd c.args.text.now c.name_end-end.result = c.name_end-end.ensures.value ∙ ap (prefix_len is_label_byte) same in
    elim c.then-end-bytes.branch [
      | then-end-bytes-via-then-end-bytes w ↦ nothing_after c.args.text.now c.name_end-end.result is (w.if-end-bytes.true ∙ ap length same)
      | then-end-bytes-via-else-end-bytes+then-bytes-end-ne61 w ↦ no_equals_after c.args.text.now c.name_end-end.result is (λ e. w.if-bytes-end-ne61.true (ap (λ t. get_or t c.name_end-end.result 0) same ∙ e))
    ]

pub returns-then-end-eq0 : goal.returns-then-end-eq0
returns-then-end-eq0 c =
    let same = c.as_bytes-bytes.ensures.value in
    let is : IsNameEnd c.args.text.now c.name_end-end.result = c.name_end-end.ensures.value ∙ ap (prefix_len is_label_byte) same in
    elim c.then-end-eq0.branch [
      | then-end-eq0-via-then-end-eq0 w ↦ bad_start c.args.text.now c.name_end-end.result is (inl w.if-end-eq0.true)
      | then-end-eq0-via-else-end-eq0+then-bytes-le57 w ↦ bad_start c.args.text.now c.name_end-end.result is (inr (omega (arith, w.if-bytes-le57.true, ap (λ t. get_or t 0 0) same)))
    ]

pub split_at-requires-2 : goal.split_at-requires-2
split_at-requires-2 c =
    let same = c.as_bytes-bytes.ensures.value in
    let within : c.name_end-end.result < length c.args.text.now = omega (arith, c.name_end-end.ensures.bound, c.if-end-bytes.false, ap length same) in
    after_name c.args.text.now c.name_end-end.result (subst IsUtf8 same c.as_bytes-bytes.ensures.utf8) within (sym (ap (λ t. get_or t c.name_end-end.result 0) same) ∙ c.if-bytes-end-ne61.false)

pub returns : goal.returns
returns c =
    let same = c.as_bytes-bytes.ensures.value in
    let is : IsNameEnd c.args.text.now c.name_end-end.result = c.name_end-end.ensures.value ∙ ap (prefix_len is_label_byte) same in
    let within : c.name_end-end.result < length c.args.text.now = omega (arith, c.name_end-end.ensures.bound, c.if-end-bytes.false, ap length same) in
    name_cut c.args.text.now c.split_at.result.0.now c.split_at-2.result.1.now c.name_end-end.result is within (sym (ap (λ t. get_or t c.name_end-end.result 0) same) ∙ c.if-bytes-end-ne61.false)
    (λ none. c.if-end-eq0.false none) (omega (arith, c.if-bytes-le57.false, ap (λ t. get_or t 0 0) same)) c.split_at.ensures.front_len c.split_at.ensures.front c.split_at-2.ensures.back
