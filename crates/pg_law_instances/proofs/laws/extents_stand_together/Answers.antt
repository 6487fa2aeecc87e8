use Rattle.pg_law_instances.proofs.NextStepsOfThread.{exited}
use Rattle.pg_law_instances.proofs.laws.extents_stand_together.Goals as goal

pub returns : goal.returns
returns c = λ p input turns gated xs out value e. (exited p input turns gated xs out value e).together
