use Rattle.pg_law_effects.proofs.RunsByThreads.{run_effects}
use Rattle.pg_law_effects.proofs.runs.a_run_has_its_effects.Goals as goal

pub returns : goal.returns
returns c = run_effects
