use Rattle.std.proofs.Common.{rules, ◌<◌, length}
use Rattle.std.proofs.lemmas.Option.{get_or_from_slice_get}
use Rattle.fm_grammar.specs.LabelPairs.{shown_label}
use Rattle.fm_text.proofs.GrownLemmas.{list_more}
use Rattle.fm_text.proofs.labels.append_list.Goals as goal

pub loop-i-preserved : goal.loop-i-preserved
loop-i-preserved g c =
    let within : c.loop-i.i < length c.args.labels.now = search rules in
    let label = shown_label c.at.result in
    let is = get_or_from_slice_get c.args.labels.now c.loop-i.i label label c.at.ensures in
    let here = rw (c.in_ok-append_separated.was, c.as_bytes.ensures.value, c.as_bytes-in-loop-i.ensures.value) at c.append_separated.ensures in
    list_more (λ label. label) c.args.labels.now c.loop-i.i label c.separator.result.now _ _ _ within c.separator.ensures c.loop-i.invariant (rw is here)
