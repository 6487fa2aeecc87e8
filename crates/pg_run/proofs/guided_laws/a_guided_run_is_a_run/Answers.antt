use Rattle.pg_run.proofs.GuidedRuns.{guided_is}
use Rattle.pg_run.proofs.guided_laws.a_guided_run_is_a_run.Goals as goal

pub returns-clause-steps : goal.returns-clause-steps
returns-clause-steps c = λ p input turns gated. (guided_is p input turns gated).0

pub returns-clause-events : goal.returns-clause-events
returns-clause-events c = λ p input turns gated. (guided_is p input turns gated).1
