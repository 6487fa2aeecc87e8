use Rattle.pg_law_runs.proofs.CutRuns as law
use Rattle.pg_law_runs.proofs.a_permitted_run_is_one_of_deeds.Goals as goal

pub returns-clause-permitted : goal.returns-clause-permitted
returns-clause-permitted c p input turns gated xs z can h = (law.ran p input turns gated can xs z h).permitted

pub returns-clause-leaves : goal.returns-clause-leaves
returns-clause-leaves c p input turns gated xs z can h = law.looks p input turns gated can xs z h
