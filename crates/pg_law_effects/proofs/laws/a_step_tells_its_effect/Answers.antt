use Rattle.pg_law_effects.proofs.ToldByStep.{tells_access, tells_request}
use Rattle.pg_law_effects.proofs.laws.a_step_tells_its_effect.Goals as goal

pub returns-clause-access : goal.returns-clause-access
returns-clause-access c = tells_access

pub returns-clause-request : goal.returns-clause-request
returns-clause-request c = tells_request
