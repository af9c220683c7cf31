use Rattle.fm_reader.proofs.DifferenceLemmas.{lines_cut, lines_last}
use Rattle.fm_reader.proofs.difference.take_line.Goals as goal

pub returns-in-Some-split_line : goal.returns-in-Some-split_line
returns-in-Some-split_line c = rw c.in-Some.is (lines_cut _ _ _ c.in-Some-split_line.ensures.0 c.in-Some-split_line.ensures.1)

pub returns-in-None : goal.returns-in-None
returns-in-None c = rw c.in-Some.is (lines_last c.in-Some.text.now c.in-None.ensures)
