use Rattle.pg_law_runs.proofs.PermittedRuns as law
use Rattle.pg_law_order.proofs.permitted_runs.a_held_run_has_ended.Goals as goal

pub returns : goal.returns
returns c p input turns later next gated full xs w z can o h e stops = law.held_ends p input turns gated can full w o xs z h next later e stops
