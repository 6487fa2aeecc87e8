use Rattle.pg_run.proofs.Locality.{others_keep}
use Rattle.pg_run.proofs.laws.a_step_is_of_one_thread.Goals as goal

pub returns : goal.returns
returns c = others_keep
