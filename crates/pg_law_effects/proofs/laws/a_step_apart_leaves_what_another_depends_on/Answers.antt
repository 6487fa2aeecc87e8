use Rattle.pg_law_effects.specs.Effect.{effect_of}
use Rattle.pg_law_effects.proofs.StepsApart.{agree_behind, ready_alike}
use Rattle.pg_law_effects.proofs.laws.a_step_apart_leaves_what_another_depends_on.Goals as goal

pub returns-clause-agrees : goal.returns-clause-agrees
returns-clause-agrees c = λ p input s t u h k g. agree_behind p input s (effect_of p input s t) u h k g

pub returns-clause-readiness : goal.returns-clause-readiness
returns-clause-readiness c = ready_alike
