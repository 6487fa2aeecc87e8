use Rattle.pg_law_effects.proofs.PermittedStepByStep.{permitted_more}
use Rattle.pg_law_effects.proofs.permitted.a_permitted_run_may_take_a_step.Goals as goal

pub returns : goal.returns
returns c = permitted_more
