use Rattle.pg_law_instances.proofs.FirstInstance.{has_instance}
use Rattle.pg_law_instances.proofs.laws.runs_have_instances.Goals as goal

pub returns : goal.returns
returns c = λ I gated input s z t l xs h r o. has_instance I gated input s z t l xs h r o
