use Rattle.pg_law_effects.proofs.PermittedStepByStep.{steps_join}
use Rattle.pg_law_effects.proofs.permitted.permitted_steps_join.Goals as goal

pub returns : goal.returns
returns c = steps_join
