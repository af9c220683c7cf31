use Rattle.std.proofs.Common.{◌≡◌, length, refl, sym, ◌∙◌}
use Rattle.fm_grammar.specs.LabelPairs.{shown_label}
use Rattle.fm_reader.proofs.SharedLabels.{own_label, fresh_to_all}
use Rattle.fm_reader.proofs.lines.shared.read_own.Goals as goal

pub returns : goal.returns
returns c =
    let one : length c.in-Some.own ≡ 1 = sym c.len.ensures.value ∙ c.if-len-ne1.false in
    own_label c.args.common.now c.in-Some.own (shown_label c.at.result) c.args.text.now c.in-Some.rest.now (rw c.in-Some.is at c.in_ok-own.ensures) one c.at.ensures
    (fresh_to_all c.args.common.now c.at.result.0.now c.len-else-len-ne1.result c.len-else-len-ne1.ensures.value (c.if-not-is_new.ensures.0 refl))
