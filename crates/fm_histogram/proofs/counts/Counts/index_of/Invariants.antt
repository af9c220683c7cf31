use Rattle.fm_histogram.proofs.counts.Counts.index_of.Given as goal

abbrev pub ghosts-index_of : goal.ghosts-index_of
ghosts-index_of a = record { name = a.blank.name; parts = a.blank.parts }
