use Rattle.std.proofs.Common.{ap, sym, ◌∙◌, fold, arith, take, length}
use Rattle.fm_labels.specs.LabelValues.{rounded, writes_of}
use Rattle.fm_labels.proofs.LabelHashLemmas.{writes_of-short}
use Rattle.fm_labels.proofs.label_values.hashing.LabelValuesHash.hash.Goals as goal

pub returns : goal.returns
returns g c =
    let bytes = c.as_bytes-bytes.result.now in let fed = fold g.H.Hasher.write c.args.state.now in
    c.feed_block.ensures ∙ ap (λ t. g.H.Hasher.write c.args.state.now (take (rounded (length bytes)) t)) c.block_of.ensures ∙ ap fed (sym (writes_of-short bytes c.if-bytes-gt-BLOCK.false)) ∙ ap (λ t. fed (writes_of t)) c.as_bytes-bytes.ensures.joined
