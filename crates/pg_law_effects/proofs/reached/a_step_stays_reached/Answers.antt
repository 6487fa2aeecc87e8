use Rattle.pg_law_effects.proofs.ReachedStates.{reached_run, reached_step}
use Rattle.pg_law_effects.proofs.reached.a_step_stays_reached.Goals as goal

pub returns-clause-step : goal.returns-clause-step
returns-clause-step c = reached_step

pub returns-clause-run : goal.returns-clause-run
returns-clause-run c = reached_run
