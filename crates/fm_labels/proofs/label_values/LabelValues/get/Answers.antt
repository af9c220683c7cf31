use Rattle.std.proofs.Common.{◌≡◌, arith, sym, ap, ◌∙◌, Some, slice_get}
use Rattle.std.specs.Str.{IsUtf8}
use Rattle.fm_labels.proofs.LabelValueLemmas.{get_left, get_none, next_left, text_left}
use Rattle.fm_labels.proofs.label_values.LabelValues.get.Goals as goal

pub loop-init : goal.loop-init
loop-init c = c.as_bytes-rest.ensures.values

pub returns-in-None : goal.returns-in-None
returns-in-None c = sym (get_none c.args.self.now c.loop.counter c.args.index (sym c.loop.invariant ∙ c.in-None.ensures) (omega arith))

pub loop-preserved : goal.loop-preserved
loop-preserved c = sym (next_left c.args.self.now _ c.loop.counter _ (sym c.loop.invariant ∙ c.in-Some.ensures.1))

pub text_of-requires : goal.text_of-requires
text_of-requires c = text_left IsUtf8 c.args.self.now _ c.loop.counter _ c.as_bytes-rest.ensures.texts (sym c.loop.invariant ∙ c.in-Some-split_value.ensures.1)

pub returns-in-Some-split_value : goal.returns-in-Some-split_value
returns-in-Some-split_value c =
    let at : c.loop.counter ≡ c.args.index = omega arith in
    let there = get_left c.args.self.now _ c.loop.counter _ (sym c.loop.invariant ∙ c.in-Some-split_value.ensures.1) in
    ap Some c.text_of.ensures ∙ sym there ∙ ap (slice_get c.args.self.now) at

pub returns-in-None-split_value : goal.returns-in-None-split_value
returns-in-None-split_value c = sym (get_none c.args.self.now c.loop.counter c.args.index (sym c.loop.invariant ∙ c.in-None-split_value.ensures) (omega arith))
