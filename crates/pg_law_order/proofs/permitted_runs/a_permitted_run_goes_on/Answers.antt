use Rattle.pg_law_runs.proofs.PermittedRuns as law
use Rattle.pg_law_order.proofs.permitted_runs.a_permitted_run_goes_on.Goals as goal

pub returns-clause-goes_on : goal.returns-clause-goes_on
returns-clause-goes_on c p input turns gated full xs w z can o h = law.goes_on p input turns gated can full w o xs z h

pub returns-clause-ends : goal.returns-clause-ends
returns-clause-ends c p input turns gated full xs w z can o h = law.short p input turns gated can full w o xs z h
