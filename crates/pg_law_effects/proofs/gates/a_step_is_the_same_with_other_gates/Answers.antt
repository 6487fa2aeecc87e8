use Rattle.pg_law_effects.proofs.OtherGates.{step_gated}
use Rattle.pg_law_effects.proofs.gates.a_step_is_the_same_with_other_gates.Goals as goal

pub returns : goal.returns
returns c = step_gated
