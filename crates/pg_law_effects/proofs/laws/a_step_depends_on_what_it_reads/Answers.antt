use Rattle.pg_law_effects.proofs.StepDependence.{effect_alike}
use Rattle.pg_law_effects.proofs.TellDependence.{tells_alike}
use Rattle.pg_law_effects.proofs.laws.a_step_depends_on_what_it_reads.Goals as goal

pub returns-clause-effects : goal.returns-clause-effects
returns-clause-effects c = effect_alike

pub returns-clause-steps : goal.returns-clause-steps
returns-clause-steps c = tells_alike
