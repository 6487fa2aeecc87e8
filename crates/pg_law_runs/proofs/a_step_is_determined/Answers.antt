use Rattle.pg_law_runs.proofs.DeedDependence.{determined}
use Rattle.pg_law_runs.proofs.a_step_is_determined.Goals as goal

pub returns : goal.returns
returns c = determined
