use Rattle.pg_run.proofs.Locality.{steps_alike}
use Rattle.pg_run.proofs.laws.a_step_depends_on_little.Goals as goal

pub returns : goal.returns
returns c = steps_alike
