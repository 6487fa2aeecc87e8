use Rattle.pg_law_effects.proofs.PermittedStepByStep.{permitted_is}
use Rattle.pg_law_effects.proofs.permitted.a_permitted_run_is_permitted_step_by_step.Goals as goal

pub returns : goal.returns
returns c = permitted_is
