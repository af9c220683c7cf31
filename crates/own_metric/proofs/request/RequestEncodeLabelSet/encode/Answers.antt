use Rattle.own_metric.proofs.request.RequestEncodeLabelSet.encode.Goals as goal

pub returns : goal.returns
returns c = rw (c.as_str.ensures, c.from.ensures) at c.encode_labels.ensures
