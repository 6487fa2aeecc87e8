use Rattle.pg_locked.specs.Standing.{given}
use Rattle.pg_locked.proofs.run.run_locked.Given as goal

abbrev pub ghosts-run_named : goal.ghosts-run_named
ghosts-run_named g a = record { run = given a.p.now a.s.now a.input.now }
