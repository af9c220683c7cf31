use Rattle.std.proofs.Common.{rules, ◌≡◌, ◌++◌, ◌∷◌, [], ◌<◌, length, take, sym, ap, ◌∙◌}
use Rattle.std.proofs.lemmas.List.{map-append, take_more}
use Rattle.std.proofs.lemmas.Option.{get_or_from_slice_get}
use Rattle.fm_grammar.specs.Exposition.{Label}
use Rattle.fm_grammar.specs.LabelPairs.{label_of, labels_of, shown_label}
use Rattle.fm_reader.proofs.lines.exemplar.owned_pairs.Goals as goal

pub loop-index-preserved : goal.loop-index-preserved
loop-index-preserved c =
    let labels = c.args.list.now in
    let i = c.loop-index.index in
    let label = shown_label c.at.result in
    let within : i < length labels = search rules in
    let name = c.in_ok-from_str.ensures.ok in
    let value = c.in_ok-from_str-2.ensures.ok in
    let copied : label_of (c.in_ok-from_str.field-0, c.in_ok-from_str-2.field-0) ≡ label = (λ j. record { name = name j; value = value j }) in
    let more = take_more labels i label within ∙ ap (λ (l : Label). take i labels ++ l ∷ []) (get_or_from_slice_get labels i label label c.at.ensures) in
    ap labels_of c.in_ok-push.ensures.items ∙ (map-append label_of c.loop-index.pairs.items _ ∙ ((λ j. c.loop-index.invariant j ++ copied j ∷ []) ∙ sym more))
