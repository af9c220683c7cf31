use Rattle.std.proofs.Common.{inl, inr, length, refl, sym, ap, ◌∙◌, ⊎_elim, string_bytes, arith, rules}
use Rattle.std.specs.List.{prefix_len}
use Rattle.fm_reader.specs.inside.Plain.{is_plain}
use Rattle.fm_reader.proofs.PlainRuns.{run_boundary, begun}
use Rattle.fm_reader.proofs.Fronts.{read_pair, read_single, no_escape, no_such_escape, empty_is}
use Rattle.fm_reader.proofs.parts.labels.read_escaped.Goals as goal
use Rattle.fm_reader.proofs.parts.labels.read_escaped.Goals.{then-c-eq92+in-Some-next+then-escape-eq110+in_ok-push, then-c-eq92+in-Some-next+else-escape-eq110+then-escape-eq92+in_ok-push-2, then-escape-eq34, else-escape-eq34, else-c-eq92+in_ok-push-3}

pub split_at-requires : goal.split_at-requires
split_at-requires c =
    run_boundary c.args.text.now c.plain_end.result (c.plain_end.ensures.value ∙ ap (prefix_len is_plain) c.as_bytes.ensures.value) (omega (arith, c.plain_end.ensures.bound, ap length c.as_bytes.ensures.value))

pub loop-c-init : goal.loop-c-init
loop-c-init c = record {
  is_text = search rules;
  so_far = begun c.args.text.now c.split_at.result.0.now c.split_at.result.1.now (string_bytes c.in_ok-value.value) c.plain_end.result (c.plain_end.ensures.value ∙ ap (prefix_len is_plain) c.as_bytes.ensures.value) c.split_at.ensures.front c.split_at.ensures.back c.in_ok-value.ensures.ok;
}

pub returns-in_default-next : goal.returns-in_default-next
returns-in_default-next c =
    no_escape _ _ _ _ c.next.new.self.rest.now c.in-Some.c c.loop-c.invariant.so_far c.chars-chars.ensures.rest c.in-Some.ensures.steps.0 c.if-c-eq92.true
    (λ byte t k e. empty_is _ c.in_default-next.ensures.steps.0.0 e)

pub returns-else-escape-eq92 : goal.returns-else-escape-eq92
returns-else-escape-eq92 c =
    no_escape _ _ _ _ c.next.new.self.rest.now c.in-Some.c c.loop-c.invariant.so_far c.chars-chars.ensures.rest c.in-Some.ensures.steps.0 c.if-c-eq92.true
    (λ byte t k e. no_such_escape c.in-Some-next.escape _ c.if-escape-eq110.false c.if-escape-eq92.false.0 c.if-escape-eq92.false.1 byte t k (sym c.in-Some-next.ensures.steps.0 ∙ e))

pub loop-c-preserved : goal.loop-c-preserved
loop-c-preserved c = record {
  is_text = c.as_str-rest.utf8;
  so_far = elim c.if-c-eq92.branch [
    | then-c-eq92+in-Some-next+then-escape-eq110+in_ok-push w ↦
        read_pair _ _ _ _ c.next.new.self.rest.now w.next-then-c-eq92.new.self.rest.now _ _ c.in-Some.c w.in-Some-next.escape 10 c.loop-c.invariant.so_far c.chars-chars.ensures.rest c.in-Some.ensures.steps.0 w.if-c-eq92.true w.in-Some-next.ensures.steps.0
        (inl (w.if-escape-eq110.true, refl)) (c.as_str-rest.ensures ∙ ap (λ z. z.rest.now) w.chars-is) (ap string_bytes w.value-is ∙ w.in_ok-push.ensures.bytes)
    | then-c-eq92+in-Some-next+else-escape-eq110+then-escape-eq92+in_ok-push-2 w ↦
        read_pair _ _ _ _ c.next.new.self.rest.now w.next-then-c-eq92.new.self.rest.now _ _ c.in-Some.c w.in-Some-next.escape w.in-Some-next.escape c.loop-c.invariant.so_far c.chars-chars.ensures.rest c.in-Some.ensures.steps.0 w.if-c-eq92.true w.in-Some-next.ensures.steps.0
        (inr (⊎_elim inl (λ r. inr r.1) w.if-escape-eq92.either, refl)) (c.as_str-rest.ensures ∙ ap (λ z. z.rest.now) w.chars-is) (ap string_bytes w.value-is ∙ w.in_ok-push-2.ensures.bytes)
    | else-c-eq92+in_ok-push-3 w ↦
        read_single _ _ _ _ c.next.new.self.rest.now _ _ c.in-Some.c c.loop-c.invariant.so_far c.chars-chars.ensures.rest c.in-Some.ensures.steps.0 c.if-c-eq10.false c.if-c-eq34.false w.if-c-eq92.false
        (c.as_str-rest.ensures ∙ ap (λ z. z.rest.now) w.chars-is) (ap string_bytes w.value-is ∙ w.in_ok-push-3.ensures.bytes)
  ];
}
