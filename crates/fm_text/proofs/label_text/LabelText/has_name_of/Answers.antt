use Rattle.fm_text.proofs.label_text.LabelText.has_name_of.Goals as goal

pub returns : goal.returns
returns c = rw (c.at.ensures.labels, c.at-2.ensures.labels) at c.has_name_of.ensures
