use Rattle.std.proofs.Common.{◌≡◌, ◌∙◌, sym, inl, inr, false}
use Rattle.std.proofs.lemmas.Result.{err_from_is_err_and}
use Rattle.fm_labels.proofs.PiecesLemmas.{EmitsPieces-then, EmitsPieces-stopped, EmitsPieces-weaker}
use Rattle.fm_labels.proofs.label_text_value.Tuple2EncodeLabel.encode.Goals as goal

pub returns-in_err-encode : goal.returns-in_err-encode
returns-in_err-encode g c =
    let written : g.V.EncodeLabelValue.is_skipped c.args.self.now.1 ≡ false = sym c.skip_encoding.ensures ∙ c.if-skip_encoding.false in
    let exit = err_from_is_err_and c.from_residual.result c.from_residual.ensures.1 in
    rw (written, exit.1, exit.2) (EmitsPieces-stopped _ _ _ _ (EmitsPieces-weaker _ _ _ inl (rw c.in_err-encode.was at c.encode.ensures)))

pub returns : goal.returns
returns g c =
    let written : g.V.EncodeLabelValue.is_skipped c.args.self.now.1 ≡ false = sym c.skip_encoding.ensures ∙ c.if-skip_encoding.false in
    rw written (EmitsPieces-then _ _ _ _ _ (EmitsPieces-weaker _ _ _ inl c.encode.ensures) c.in_ok-encode.was (EmitsPieces-weaker _ _ _ inr c.encode-2.ensures))
