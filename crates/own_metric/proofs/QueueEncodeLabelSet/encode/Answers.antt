use Rattle.own_metric.proofs.QueueEncodeLabelSet.encode.Goals as goal

pub returns : goal.returns
returns c = rw (c.as_str.ensures.value, c.from.ensures) at c.encode_labels.ensures
