use Rattle.std.proofs.Common.{List, ◌≤◌, sym, subst, true≢false}
use Rattle.fm_grammar.specs.Exposition.{Label}
use Rattle.fm_grammar.specs.WellFormed.{label_code_points}
use Rattle.fm_grammar.specs.LabelPairs.{labels_of}
use Rattle.fm_reader.proofs.Exemplars.{body_long, body_no_value, body_no_time, body_more, tail_some}
use Rattle.fm_reader.proofs.lines.exemplar.read_body.Goals as goal

pub returns-then-not-are_short : goal.returns-then-not-are_short
returns-then-not-are_short c =
    body_long _ c.in-Some.list c.in-Some.rest.now (rw c.in-Some.is at c.in_ok-list.ensures)
    (λ s. true≢false (sym (c.if-not-are_short.ensures.1 (subst (λ ls. label_code_points (labels_of ls) ≤ 128) (sym c.deref.ensures.value) (subst (λ (ls : List Label). label_code_points ls ≤ 128) (sym c.in_ok-labels.ensures) s)))))

pub returns-in_default-read_small : goal.returns-in_default-read_small
returns-in_default-read_small c =
    body_no_value _ c.in-Some.list c.in-Some.rest.now c.split_token.result.0.now c.split_token.result.1 (rw c.in-Some.is at c.in_ok-list.ensures) c.split_token.ensures c.in_default-read_small.ensures

pub returns-in_default-read_time : goal.returns-in_default-read_time
returns-in_default-read_time c =
    body_no_time _ c.in-Some.list c.in-Some.rest.now c.split_token.result.0.now c.split_token.result.1 (rw c.in-Some.is at c.in_ok-list.ensures) c.split_token.ensures c.in_default-read_time.ensures

pub returns-then-is_some : goal.returns-then-is_some
returns-then-is_some c =
    body_more _ c.in-Some.list c.in-Some.rest.now c.split_token.result.0.now c.split_token.result.1 c.in-Some-read_time.after c.in-Some-read_time.time (rw c.in-Some.is at c.in_ok-list.ensures) c.split_token.ensures c.in-Some-read_time.ensures
    (tail_some c.in-Some-read_time.after c.if-is_some.ensures)
