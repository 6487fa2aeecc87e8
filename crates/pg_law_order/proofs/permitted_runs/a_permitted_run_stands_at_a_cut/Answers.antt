use Rattle.pg_law_runs.proofs.PermittedRuns as law
use Rattle.pg_law_order.proofs.permitted_runs.a_permitted_run_stands_at_a_cut.Goals as goal

pub returns : goal.returns
returns c p input turns gated full xs w z can o h = law.at_cut p input turns gated can full w o xs z h
