use Rattle.expose_io.proofs.tally.jobs.Given as goal

abbrev pub ghosts-counted_jobs : goal.ghosts-counted_jobs
ghosts-counted_jobs g a = record { name = a.blank.name; parts = a.blank.parts }
