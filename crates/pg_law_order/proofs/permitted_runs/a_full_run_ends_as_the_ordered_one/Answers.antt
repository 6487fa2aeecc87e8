use Rattle.pg_law_runs.proofs.PermittedRuns as law
use Rattle.pg_law_order.proofs.permitted_runs.a_full_run_ends_as_the_ordered_one.Goals as goal

pub returns : goal.returns
returns c p input turns gated full xs w z can o h f = law.ends p input turns gated can full w o xs z h f
