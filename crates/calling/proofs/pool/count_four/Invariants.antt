use Rattle.calling.proofs.pool.count_four.Given as goal

abbrev pub ghosts-count_all : goal.ghosts-count_all
ghosts-count_all g a = record { name = a.blank.name; parts = a.blank.parts }
