use Rattle.pg_law_instances.proofs.MachineSteps.{step_stays}
use Rattle.pg_law_instances.proofs.laws.a_step_inside_stays.Goals as goal

pub returns : goal.returns
returns c = λ I gated input s z t l x h r d. step_stays I gated input s z t l x h r d
