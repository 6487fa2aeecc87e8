use Rattle.pg_law_runs.proofs.PermittedRuns as law
use Rattle.pg_law_order.proofs.permitted_runs.the_owner_of_the_next_turn_can_step.Goals as goal

pub returns-clause-performed : goal.returns-clause-performed
returns-clause-performed c p input turns later next gated full xs w z can o h e l = law.owner p input turns gated can full w o xs z h next later e l

pub returns-clause-free : goal.returns-clause-free
returns-clause-free c p input turns later next gated full xs w z can o h e n s = law.owner_goes p input turns gated can full w o xs z h next later e n s
