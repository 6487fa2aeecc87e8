use Rattle.pg_law_effects.proofs.StepEffects.{has_effect}
use Rattle.pg_law_effects.proofs.laws.a_step_has_its_effect.Goals as goal

pub returns : goal.returns
returns c = has_effect
