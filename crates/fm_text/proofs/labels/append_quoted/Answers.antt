use Rattle.fm_text.proofs.labels.append_quoted.Goals as goal

pub returns-then-is_plain : goal.returns-then-is_plain
returns-then-is_plain g c = rw (c.is_plain.ensures c.if-is_plain.true) c.put_three.ensures
