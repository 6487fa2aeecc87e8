use Rattle.pg_law_effects.proofs.RunsByThreads.{run_of_is}
use Rattle.pg_law_effects.proofs.runs.a_run_is_told_by_its_threads.Goals as goal

pub returns : goal.returns
returns c = run_of_is
