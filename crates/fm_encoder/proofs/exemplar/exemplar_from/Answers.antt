use Rattle.std.proofs.Common.{◌≤◌, ◌∙◌}
use Rattle.std.specs.Option.{option_map}
use Rattle.fm_grammar.specs.WellFormed.{label_code_points}
use Rattle.fm_grammar.specs.LabelPairs.{labels_of}
use Rattle.fm_encoder.specs.Points.{EmittedExemplar, millis}
use Rattle.fm_encoder.proofs.ExemplarLemmas.{exemplar_whole}
use Rattle.fm_encoder.proofs.exemplar.exemplar_from.Goals as goal

pub returns : goal.returns
returns g c =
    let read = rw c.in_ok-written.was at c.written_labels.ensures in
    let emitted : EmittedExemplar = record { labels = g.LS.EncodeLabelSet.labels c.args.labels.now; value = c.args.value; time = option_map millis c.args.time } in
    let labels = labels_of c.in_ok-written.written.items in
    let short : label_code_points labels ≤ 128 = rw c.deref.ensures.value at (c.are_short.ensures.0 c.if-not-are_short.false) in
    let is = c.exemplar.ensures ∙ (λ i. record { labels = labels; value = c.in_range.ensures.same i; time = c.whole_millis.ensures.value i }) in
    exemplar_whole emitted labels _ read.0 read.1 short c.in_range.ensures.fits (rw c.whole_millis.ensures.value at c.whole_millis.ensures.range) is
