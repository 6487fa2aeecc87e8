use Rattle.pg_law_effects.proofs.RunsByThreads.{same_runs, state_is}
use Rattle.pg_law_effects.proofs.runs.a_run_leaves_one_state.Goals as goal

pub returns-clause-steps : goal.returns-clause-steps
returns-clause-steps c = same_runs

pub returns-clause-state : goal.returns-clause-state
returns-clause-state c = state_is
